-- RULES.md, section 8: what is printed for an answer.
use Rattle.std.specs.Prelude.{ℕ, zero, suc, ◌+◌, ◌/◌, ◌%◌, Bool, cond, List, [], ◌∷◌, ◌++◌, ◌≡◌, leb, ltb, length, take, drop, Result, Ok, Err}
use Prim.Native.String.{String}
use Rattle.ground.specs.Refusals.{numbered as in_numbers}
use Rattle.ground.specs.declared.refusals.Refusal.{Refusal}
use Rattle.lines.specs.Lines.{text}
use Rattle.lines.specs.declared.printing.Answer.{Answer}
use Rattle.lines.specs.declared.printing.Answer.TheVariants.{Kept, Cut, Covered, Gust, Nothing, Counts}

-- Rule 8.25: a number in decimal digits, without leading zeros. Ten digits hold every number of 32 bits.
unfoldable pub decimal_of : ℕ → ℕ → List ℕ
decimal_of zero n = []
decimal_of (suc most) n = cond (ltb n 10) ((48 + n) ∷ []) (decimal_of most (n / 10) ++ ((48 + n % 10) ∷ []))

abbrev pub decimal : ℕ → List ℕ
decimal n = decimal_of 10 n

-- A text and a number after it.
abbrev pub labelled : String → ℕ → List ℕ
labelled label n = text label ++ decimal n

-- Rule 8.25: a printed line ends with byte 10.
abbrev pub line_end : List ℕ
line_end = 10 ∷ []

-- Rule 8.24: a refusal is told by its number.
abbrev pub numbered : Result Answer Refusal → Result Answer ℕ
numbered = in_numbers

-- Rules 8.21, 8.22, 8.23, 8.24: a record's answer, a question's, a count's, and a refusal.
unfoldable pub printed : Result Answer ℕ → List ℕ
printed (Ok (Kept struck)) = labelled "kept struck " struck ++ line_end
printed (Ok (Cut struck)) = labelled "cut struck " struck ++ line_end
printed (Ok (Covered struck)) = labelled "covered struck " struck ++ line_end
printed (Ok (Gust tenths pages)) = labelled "gust " tenths ++ (labelled " pages " pages ++ line_end)
printed (Ok (Nothing pages)) = labelled "nothing pages " pages ++ line_end
printed (Ok (Counts accepted held struck covered)) =
    labelled "accepted " accepted ++ (labelled " held " held ++ (labelled " struck " struck ++ (labelled " covered " covered ++ line_end)))
printed (Err refusal) = labelled "refused " refusal ++ line_end

-- Bytes put into a buffer at a place: what stands before and after them stays.
unfoldable pub put : List ℕ → ℕ → List ℕ → List ℕ
put buffer place bytes = take place buffer ++ (bytes ++ drop (place + length bytes) buffer)

-- The longest line that an answer can have, with its end: four numbers of ten digits.
abbrev pub longest_answer : ℕ
longest_answer = 73

-- An answer is printed where the longest would fit; elsewhere the buffer and the place stay.
abbrev pub fits : ℕ → ℕ → Bool
fits size place = leb (place + longest_answer) size

unfoldable pub buffer_after : Result Answer ℕ → List ℕ → ℕ → List ℕ
buffer_after a buffer place = cond (fits (length buffer) place) (put buffer place (printed a)) buffer

unfoldable pub place_after : Result Answer ℕ → List ℕ → ℕ → ℕ
place_after a buffer place = cond (fits (length buffer) place) (place + length (printed a)) place

pub record Prints (a : Result Answer ℕ) (before after : List ℕ) (place next : ℕ) : Type 0 where
  pub buffer : after ≡ buffer_after a before place
  pub past : next ≡ place_after a before place
