-- A line by its first word: up to the first space, or all of it.
use Rattle.std.proofs.Common.{◌≡◌, ℕ, suc, ◌+◌, ◌-◌, ◌≤◌, Bool, true, false, not, cond, List, [], ◌∷◌, length, take, drop, eqb, Some, None, refl, arith, take_all, length-drop, position}
use Rattle.std.specs.List.{position_or_len, slice_split, onto_first}
use Rattle.std.proofs.lemmas.List.Splits.{slice_split_first}
use Rattle.lines.proofs.Found.{found_at, found_nowhere}
use Rattle.lines.specs.Lines.{Word, space, with_byte, words}

words_split : (line : List ℕ) → words line ≡ slice_split (λ b. eqb b space) line
unfolding words with_byte
words_split [] = refl
words_split (b ∷ bs) = rw (words_split bs) (by_space (eqb b space) (slice_split (λ b. eqb b space) bs))
  where
    by_space : (t : Bool) (ws : List Word) → with_byte t b ws ≡ cond t ([] ∷ ws) (onto_first b ws)
    by_space true ws = refl
    by_space false [] = refl
    by_space false (w ∷ ws) = refl

pub first_word : (line : List ℕ) (end : ℕ) → position (λ b. eqb b space) line ≡ Some end → words line ≡ take end line ∷ words (take (length line - (end + 1)) (drop (end + 1) line))
first_word line end e =
    let h = found_at (λ b. eqb b space) line end e in
    let rest : take (length line - (end + 1)) (drop (end + 1) line) ≡ drop (end + 1) line = take_all (length line - (end + 1)) (drop (end + 1) line) (omega (arith, length-drop (end + 1) line)) in
    rw (words_split line, slice_split_first (λ b. eqb b space) line 0 (omega arith), rest, words_split (drop (end + 1) line), h.1)

space_free : (line : List ℕ) → length line ≤ position_or_len (λ b. eqb b space) line → words line ≡ line ∷ []
unfolding words with_byte
space_free [] h = refl
space_free (b ∷ bs) h = by_space (eqb b space) (space_free bs) h
  where
    by_space :
        (t : Bool) → (length bs ≤ position_or_len (λ b. eqb b space) bs → words bs ≡ bs ∷ []) → suc (length bs) ≤ cond (not t) (1 + position_or_len (λ b. eqb b space) bs) 0
        → with_byte t b (words bs) ≡ (b ∷ bs) ∷ []
    by_space true more h = absurd (omega arith)
    by_space false more h = rw (more (omega arith)) refl

pub only_word : (line : List ℕ) → position (λ b. eqb b space) line ≡ None → words line ≡ line ∷ []
only_word line e = space_free line (found_nowhere (λ b. eqb b space) line e)
