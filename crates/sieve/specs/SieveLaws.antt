-- The sieve decides touching and covering, for all 16-bit words.
use Rattle.std.specs.Prelude.{[], ◌∷◌, ◌++◌, ℕ, ◌≤◌, Bool, true, false, ◌&&◌, List, ◌≡◌, refl, leb, get_or, take, drop}
use Rattle.std.proofs.Math.Path.{ap}
use Rattle.std.proofs.Common.{◌∙◌, subst, le-leb}
use native.Mathlib.Omega.{arith}
use Rattle.ground.specs.Boxes.{touches, covers}
use Rattle.ground.specs.declared.boxes.Box.{Box}
use Rattle.pages.specs.Layout.{words_of_box, words_of_entry}
use Rattle.pages.specs.Words.{every}
use Rattle.pages.specs.declared.Entry.{Entry}
use Rattle.sieve.specs.Sieve.{top_word, passes, touching_rows, covering_rows, question_of, IsSieve, Words}
use Rattle.sieve.specs.declared.Rows.{Rows}

-- the sieve that is made is one, and its question is the one that it was made of
pub sieve_is : (q : Box) → IsSieve (touching_rows q) (covering_rows q)
unfolding touching_rows covering_rows
sieve_is q = record { touches = refl; covers = refl }

pub question_of_lem : (q : Box) → question_of (touching_rows q) ≡ q
unfolding touching_rows
question_of_lem q = refl

-- three tests of low ends and three of high ones, paired
paired : (a c e b d f : Bool) → (a && (c && (e && true))) && (b && (d && (f && true))) ≡ (a && b) && (c && d) && (e && f)
paired true true true true true true = refl
paired true true true true true false = refl
paired true true true true false f = refl
paired true true true false d f = refl
paired true true false true true f = refl
paired true true false true false f = refl
paired true true false false d f = refl
paired true false e true d f = refl
paired true false e false d f = refl
paired false c e b d f = refl

least : (n : ℕ) → leb 0 n ≡ true
least n = le-leb 0 n (omega arith)

-- a test of a box is two of the words beside each other, among tests that every word passes
module _ (q b : Box) (x y : ℕ) (w : Words (words_of_box b ++ (x ∷ y ∷ []))) where
  greatest : (k n : ℕ) → get_or (words_of_box b ++ (x ∷ y ∷ [])) k 0 ≡ n → leb n top_word ≡ true
  greatest k n e = le-leb n top_word (subst (λ m. m ≤ top_word) e (w.small k))

  pub rows_touch : passes (touching_rows q) (words_of_box b ++ (x ∷ y ∷ [])) ≡ touches q b
  unfolding every touching_rows touches words_of_box
  rows_touch =
      rw (least b.east.low, least b.north.low, least b.day.low, least x, least y)
      (rw (greatest 1 b.east.high refl, greatest 3 b.north.high refl, greatest 5 b.day.high refl, greatest 6 x refl, greatest 7 y refl)
      (paired (leb q.east.low b.east.high) (leb q.north.low b.north.high) (leb q.day.low b.day.high) (leb b.east.low q.east.high) (leb b.north.low q.north.high) (leb b.day.low q.day.high)))

  pub rows_cover : passes (covering_rows q) (words_of_box b ++ (x ∷ y ∷ [])) ≡ covers q b
  unfolding every covering_rows covers words_of_box
  rows_cover =
      rw (least b.east.high, least b.north.high, least b.day.high, least x, least y)
      (rw (greatest 0 b.east.low refl, greatest 2 b.north.low refl, greatest 4 b.day.low refl, greatest 6 x refl, greatest 7 y refl)
      (paired (leb q.east.low b.east.low) (leb q.north.low b.north.low) (leb q.day.low b.day.low) (leb b.east.high q.east.high) (leb b.north.high q.north.high) (leb b.day.high q.day.high)))

-- the same of the boxes of an entry, for rows and words that are known by equations
module _ (q : Box) (e : Entry) (touching covering : Rows) (h : IsSieve touching covering) (same : question_of touching ≡ q) (words row : List ℕ) (r : Bool)
    (of_entry : words ≡ words_of_entry e) where
  pub place_touched : row ≡ take 8 words → (r ≡ passes touching row) × Words row → r ≡ touches q e.place
  unfolding words_of_entry words_of_box
  place_touched p k =
      let z : row ≡ words_of_box e.place ++ (e.gust ∷ e.weakest ∷ []) = p ∙ ap (take 8) of_entry in
      k.0 ∙ ap (λ s. passes s row) (h.touches ∙ ap touching_rows same) ∙ ap (passes (touching_rows q)) z ∙ rows_touch q e.place e.gust e.weakest (subst Words z k.1)

  pub place_covered : row ≡ take 8 words → (r ≡ passes covering row) × Words row → r ≡ covers q e.place
  unfolding words_of_entry words_of_box
  place_covered p k =
      let z : row ≡ words_of_box e.place ++ (e.gust ∷ e.weakest ∷ []) = p ∙ ap (take 8) of_entry in
      k.0 ∙ ap (λ s. passes s row) (h.covers ∙ ap covering_rows same) ∙ ap (passes (covering_rows q)) z ∙ rows_cover q e.place e.gust e.weakest (subst Words z k.1)

  pub strongest_touched : row ≡ take 8 (drop 9 words) → (r ≡ passes touching row) × Words row → r ≡ touches q e.strongest
  unfolding words_of_entry words_of_box
  strongest_touched p k =
      let z : row ≡ words_of_box e.strongest ++ (e.union.east.low ∷ e.union.east.high ∷ []) = p ∙ ap (λ w. take 8 (drop 9 w)) of_entry in
      k.0 ∙ ap (λ s. passes s row) (h.touches ∙ ap touching_rows same) ∙ ap (passes (touching_rows q)) z ∙ rows_touch q e.strongest e.union.east.low e.union.east.high (subst Words z k.1)
