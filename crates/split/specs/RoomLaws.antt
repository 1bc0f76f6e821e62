-- Laws of places in their array.
use Rattle.std.specs.List.{copy_within}
use Rattle.std.proofs.Common.{◌≡◌, ◌≢◌, ◌∙◌, ℕ, suc, ◌+◌, ◌-◌, ◌<◌, ◌≤◌, ◌⊎◌, List, [], ◌∷◌, ◌++◌, length, get_or, take, drop, set, replicate, refl, sym, ap, ap₂, arith, length-set, length-drop, length-append}
use Rattle.std.proofs.lemmas.List.{take-append-drop, get_or-drop, get_or-take, get_or_append_left, get_or-append_right, get_or-set_other}
use Rattle.std.proofs.lemmas.List.Edits.{length-paste, take-paste, paste_more}
use Rattle.std.proofs.lemmas.Grind.{get_or-set_at}
use Rattle.std.proofs.lemmas.Bool.{cases_lt, cases_eq}
use Rattle.std.proofs.Math.Logic.{◌⊎◌.inl, ◌⊎◌.inr}
use Rattle.std.proofs.Math.Seq.{length-take-le}
use lib.Seq.{paste}
use Rattle.split.specs.Room.{room_of, ArePlaces}

all_none : (l : List ℕ) → ((k : ℕ) → get_or l k 0 ≡ 0) → l ≡ replicate (length l) 0
all_none [] f = refl
all_none (x ∷ l) f = ap₂ (λ (y : ℕ) (m : List ℕ). y ∷ m) (f 0) (all_none l (λ k. f (suc k)))

-- a list over which n words of another are copied: what stands before them, they themselves, and what stands after them
module _ (d s : List ℕ) (at n : ℕ) (room : at + n ≤ length d) (some : n ≤ length s) where
  to_there : length (take at d) ≡ at
  to_there = length-take-le at d (omega arith)

  to_end : length (take at d ++ take n s) ≡ at + n
  to_end = omega (arith, to_there, length-append (take at d) (take n s), length-take-le n s some)

  before_it : (k : ℕ) → k < at → get_or (paste d at s n) k 0 ≡ get_or d k 0
  before_it k p =
      get_or_append_left (take at d ++ take n s) (drop (at + n) d) 0 k (omega (arith, to_end))
      ∙ get_or_append_left (take at d) (take n s) 0 k (omega (arith, to_there)) ∙ get_or-take at d k 0 p

  within_it : (k : ℕ) → at ≤ k → k < at + n → get_or (paste d at s n) k 0 ≡ get_or s (k - at) 0
  within_it k p q =
      get_or_append_left (take at d ++ take n s) (drop (at + n) d) 0 k (omega (arith, to_end))
      ∙ get_or-append_right (take at d) (take n s) at k 0 to_there p ∙ get_or-take n s (k - at) 0 (omega arith)

  after_it : (k : ℕ) → at + n ≤ k → get_or (paste d at s n) k 0 ≡ get_or d k 0
  after_it k p =
      get_or-append_right (take at d ++ take n s) (drop (at + n) d) (at + n) k 0 to_end p
      ∙ get_or-drop (at + n) d (k - (at + n)) 0 ∙ ap (λ (j : ℕ). get_or d j 0) (omega arith)

module _ (at : List ℕ) (count : ℕ) (h : ArePlaces at count) where
  -- the places give their number and their array back
  pub count_again : length (take count at) ≡ count
  count_again = length-take-le count at (omega (arith, h.few, h.long))

  pub room_again : room_of (take count at) ≡ at
  room_again =
      let n : 9 - length (take count at) ≡ length (drop count at) = omega (arith, count_again, length-drop count at, h.long) in
      let none : drop count at ≡ replicate (length (drop count at)) 0 = all_none (drop count at) (λ k. get_or-drop count at k 0 ∙ h.rest (count + k) (omega arith)) in
      ap (λ (m : ℕ). take count at ++ replicate m 0) n ∙ ap (λ (l : List ℕ). take count at ++ l) (sym none) ∙ take-append-drop count at

  -- one taken out and closed up by a copy of those from a later place on, and 0 in the place that this leaves
  module _ (i j : ℕ) (inside : i < count) (later : i ≤ j) (most : j ≤ count) where
    room : i + (count - j) ≤ length at
    room = omega (arith, h.few, h.long)

    some : count - j ≤ length (drop j at)
    some = omega (arith, h.few, h.long, length-drop j at)

    closed_within : (k : ℕ) → k < 9 → get_or (copy_within at j count i) k 0 < 9
    closed_within k p = by_place (cases_lt k i) (cases_lt k (i + (count - j)))
      where
        by_place : (k < i) ⊎ (i ≤ k) → (k < i + (count - j)) ⊎ (i + (count - j) ≤ k) → get_or (copy_within at j count i) k 0 < 9
        by_place (inl q) r = omega (arith, before_it at (drop j at) i (count - j) room some k q, h.within k p)
        by_place (inr q) (inl r) = omega (arith, within_it at (drop j at) i (count - j) room some k q r, get_or-drop j at (k - i) 0, h.within (j + (k - i)) (omega (arith, h.few)))
        by_place (inr q) (inr r) = omega (arith, after_it at (drop j at) i (count - j) room some k r, h.within k p)

    closed_long : length (copy_within at j count i) ≡ 9
    closed_long = length-paste at i (drop j at) (count - j) room some ∙ h.long

    given_up : (k : ℕ) → k ≡ count - 1 → get_or (set (copy_within at j count i) (count - 1) 0) k 0 ≡ 0
    given_up k e = get_or-set_at (copy_within at j count i) (count - 1) k 0 0 e (omega (arith, closed_long, h.few))

    pub one_less : ArePlaces (set (copy_within at j count i) (count - 1) 0) (count - 1)
    one_less =
        record {
          few = omega (arith, h.few);
          long = length-set (copy_within at j count i) (count - 1) 0 ∙ closed_long;
          within = λ k p. within k p (cases_eq k (count - 1));
          rest = λ k p. rest k p (cases_eq k (count - 1));
        }
      where
        within : (k : ℕ) → k < 9 → (k ≡ count - 1) ⊎ (k ≢ count - 1) → get_or (set (copy_within at j count i) (count - 1) 0) k 0 < 9
        within k p (inl q) = omega (arith, given_up k q)
        within k p (inr q) = omega (arith, get_or-set_other (copy_within at j count i) (count - 1) k 0 0 q, closed_within k p)

        rest : (k : ℕ) → count - 1 ≤ k → (k ≡ count - 1) ⊎ (k ≢ count - 1) → get_or (set (copy_within at j count i) (count - 1) 0) k 0 ≡ 0
        rest k p (inl q) = given_up k q
        rest k p (inr q) = get_or-set_other (copy_within at j count i) (count - 1) k 0 0 q ∙ after_it at (drop j at) i (count - j) room some k (omega arith) ∙ h.rest k (omega arith)

-- Those of another array taken over, one after the other, behind the places of a first.
abbrev pub joined : List ℕ → ℕ → List ℕ → ℕ → List ℕ
joined xs n ys m = paste xs n ys m

pub joined_more : (xs now ys : List ℕ) (n k : ℕ) → now ≡ joined xs n ys k → n + k < length xs → k < length ys → set now (n + k) (get_or ys k 0) ≡ joined xs n ys (k + 1)
joined_more xs now ys n k e p q = ap (λ (l : List ℕ). set l (n + k) (get_or ys k 0)) e ∙ paste_more xs n ys k 0 p q

pub joined_first : (xs ys : List ℕ) (n m : ℕ) → n ≤ length xs → m ≤ length ys → take (n + m) (joined xs n ys m) ≡ take n xs ++ take m ys
joined_first xs ys n m p q = take-paste xs n ys m p q

pub joined_places : (xs ys : List ℕ) (n m : ℕ) → ArePlaces xs n → ArePlaces ys m → n + m ≤ 9 → ArePlaces (joined xs n ys m) (n + m)
joined_places xs ys n m h g most =
    record {
      few = most;
      long = length-paste xs n ys m room some ∙ h.long;
      within = λ k p. by_place k p (cases_lt k n) (cases_lt k (n + m));
      rest = λ k p. after_it xs ys n m room some k p ∙ h.rest k (omega arith);
    }
  where
    room : n + m ≤ length xs
    room = omega (arith, h.long, most)

    some : m ≤ length ys
    some = omega (arith, g.long, g.few)

    by_place : (k : ℕ) → k < 9 → (k < n) ⊎ (n ≤ k) → (k < n + m) ⊎ (n + m ≤ k) → get_or (joined xs n ys m) k 0 < 9
    by_place k p (inl q) r = omega (arith, before_it xs ys n m room some k q, h.within k p)
    by_place k p (inr q) (inl r) = omega (arith, within_it xs ys n m room some k q r, g.within (k - n) (omega arith))
    by_place k p (inr q) (inr r) = omega (arith, after_it xs ys n m room some k r, h.within k p)
