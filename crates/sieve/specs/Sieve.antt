-- A question as two pairs of rows of eight words: the least and the greatest that the words of a box may be if the box touches the question, and if the question covers it.
use Rattle.std.specs.Prelude.{ℕ, ◌≤◌, Bool, ◌&&◌, List, [], ◌∷◌, ◌≡◌, leb, get_or}
use Rattle.std.specs.List.{zip}
use Rattle.ground.specs.declared.boxes.Box.{Box}
use Rattle.pages.specs.Words.{every}
use Rattle.sieve.specs.declared.Rows.{Rows}

abbrev pub top_word : ℕ
top_word = 65_535

-- Each word of a row is at most the one beside it in another.
abbrev pub each_at_most : List ℕ → List ℕ → Bool
each_at_most low high = every (λ p. leb p.0 p.1) (zip low high)

-- Eight words pass two rows: at least those of the one, at most those of the other.
abbrev pub passes : Rows → List ℕ → Bool
passes r w = each_at_most r.least w && each_at_most w r.greatest

-- Words of 16 bits: they pass the greatest word, whatever they are.
pub record Words (w : List ℕ) : Type 0 where
  pub small : (k : ℕ) → get_or w k 0 ≤ top_word

-- The rows of a question for the boxes that touch it, and for those that it covers. The last two places of a row let every word pass.
unfoldable pub touching_rows : Box → Rows
touching_rows q =
    record {
      least = 0 ∷ q.east.low ∷ 0 ∷ q.north.low ∷ 0 ∷ q.day.low ∷ 0 ∷ 0 ∷ [];
      greatest = q.east.high ∷ top_word ∷ q.north.high ∷ top_word ∷ q.day.high ∷ top_word ∷ top_word ∷ top_word ∷ [];
    }

unfoldable pub covering_rows : Box → Rows
covering_rows q =
    record {
      least = q.east.low ∷ 0 ∷ q.north.low ∷ 0 ∷ q.day.low ∷ 0 ∷ 0 ∷ 0 ∷ [];
      greatest = top_word ∷ q.east.high ∷ top_word ∷ q.north.high ∷ top_word ∷ q.day.high ∷ top_word ∷ top_word ∷ [];
    }

-- The question whose rows they are.
abbrev pub question_of : Rows → Box
question_of r =
    record {
      east = record { low = get_or r.least 1 0; high = get_or r.greatest 0 0 };
      north = record { low = get_or r.least 3 0; high = get_or r.greatest 2 0 };
      day = record { low = get_or r.least 5 0; high = get_or r.greatest 4 0 };
    }

pub record IsSieve (touching covering : Rows) : Type 0 where
  pub touches : touching ≡ touching_rows (question_of touching)
  pub covers : covering ≡ covering_rows (question_of touching)
