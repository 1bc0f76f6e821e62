-- Laws of tests: what a true `&&` tells, and when two tests are one. They speak of no box, so every storey may cite them.
use Rattle.std.specs.Prelude.{Bool, true, false, ◌&&◌, ◌||◌, ◌⊎◌, ◌≡◌, refl, ℕ, ◌≤◌, ◌<◌, leb, ltb}
use Rattle.std.proofs.lemmas.Bool.{false≢true}
use Rattle.std.proofs.Math.Logic.{◌⊎◌.inl, ◌⊎◌.inr}
use Rattle.std.proofs.Common.{sym, leb-true, le-leb, ltb-true, ltb-false}

pub both : (a b : Bool) → a && b ≡ true → (a ≡ true) × (b ≡ true)
both true b e = (refl, e)
both false b e = absurd (false≢true e)

pub joint : (a b : Bool) → a ≡ true → b ≡ true → a && b ≡ true
joint true b p q = q
joint false b p q = p

pub three : (a b c : Bool) → a && b && c ≡ true → (a ≡ true) × (b ≡ true) × (c ≡ true)
three a b c e =
    let h = both (a && b) c e in
    let g = both a b h.0 in
    (g.0, g.1, h.1)

pub joint_three : (a b c : Bool) → a ≡ true → b ≡ true → c ≡ true → a && b && c ≡ true
joint_three a b c p q r = joint (a && b) c (joint a b p q) r

pub either : (a b : Bool) → a || b ≡ true → (a ≡ true) ⊎ (b ≡ true)
either true b e = inl refl
either false b e = inr e

pub first_of : (a b : Bool) → a ≡ true → a || b ≡ true
first_of true b p = refl
first_of false b p = absurd (false≢true p)

pub second_of : (a b : Bool) → b ≡ true → a || b ≡ true
second_of true b p = refl
second_of false b p = p

-- two tests that pass for each other are one
pub same_test : (s t : Bool) → (s ≡ true → t ≡ true) → (t ≡ true → s ≡ true) → s ≡ t
same_test true t f g = sym (f refl)
same_test false true f g = g refl
same_test false false f g = refl

pub fails : (t : Bool) → (t ≡ true → ⊥) → t ≡ false
fails true h = absurd (h refl)
fails false h = refl

-- two comparisons, as facts on numbers and back
pub orders : (a b c d : ℕ) → leb a b && leb c d ≡ true → (a ≤ b) × (c ≤ d)
orders a b c d e =
    let h = both (leb a b) (leb c d) e in
    (leb-true a b h.0, leb-true c d h.1)

pub ordered : (a b c d : ℕ) → a ≤ b → c ≤ d → leb a b && leb c d ≡ true
ordered a b c d p q = joint (leb a b) (leb c d) (le-leb a b p) (le-leb c d q)

pub below_or_not : (a b : ℕ) → (a < b) ⊎ (b ≤ a)
below_or_not a b = by_test (ltb a b) refl
  where
    by_test : (t : Bool) → ltb a b ≡ t → (a < b) ⊎ (b ≤ a)
    by_test true e = inl (ltb-true a b e)
    by_test false e = inr (ltb-false a b e)
