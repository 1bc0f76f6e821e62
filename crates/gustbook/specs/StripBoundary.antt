-- The calls on a strip, in numbers: two numbers are a range of days, as great as they are; the answer is two numbers that the caller lends.
use Rattle.std.specs.Prelude.{ℕ, ◌≤◌, Bool, List, [], ◌∷◌, Option, Some, None, Result, ◌≡◌, get_or}
use Rattle.std.proofs.Math.Bool.{true, false}
use Rattle.std.proofs.Math.Path.{refl, ap, ap₂}
use Rattle.std.proofs.Common.{sym, ◌∙◌, leb-true}
use native.Mathlib.Omega.{arith}
use Rattle.std.proofs.Math.Dec.{leb}
use Rattle.ground.specs.Boxes.{day_limit, gust_limit, legal_on}
use Rattle.ground.specs.Tests.{orders, ordered, same_test}
use Rattle.ground.specs.declared.boxes.Range.{Range}
use Rattle.ground.specs.declared.refusals.Refusal.{Refusal}
use Rattle.strip.specs.StripCalls.{Lent, Left, recorded, asked}
use Rattle.wide.specs.Wide.{narrow, narrow_passes}
use Rattle.gustbook.specs.Boundary.{Told, told_by}

abbrev to : ℕ → ℕ → Range
to low high = record { low = low; high = high }

abbrev pub days_of : List ℕ → Range
days_of w = to (get_or w 0 0) (get_or w 1 0)

abbrev pub narrow_days : List ℕ → Range
narrow_days w = to (narrow (get_or w 0 0)) (narrow (get_or w 1 0))

-- Asking: 1 and the gust, or 0 and 0 for nothing.
abbrev pub greatest_numbers : Option ℕ → List ℕ
greatest_numbers None = 0 ∷ 0 ∷ []
greatest_numbers (Some gust) = 1 ∷ gust ∷ []

abbrev pub strip_told : Result (Option ℕ) Refusal → List ℕ → Told
strip_told = told_by greatest_numbers

-- the numbers narrowed are refused as those given, and are those given where they are not
legal_narrow : (a b : ℕ) → legal_on day_limit (to (narrow a) (narrow b)) ≡ legal_on day_limit (to a b)
legal_narrow a b =
    same_test (legal_on day_limit (to (narrow a) (narrow b))) (legal_on day_limit (to a b))
    (λ e. let g = orders (narrow a) (narrow b) (narrow b) day_limit e in ordered a b b day_limit (omega arith) (omega arith))
    (λ e. let g = orders a b b day_limit e in ordered (narrow a) (narrow b) (narrow b) day_limit (omega arith) (omega arith))

module _ (s : Lent) (a b : ℕ) where
  days_kept : legal_on day_limit (to a b) ≡ true → to (narrow a) (narrow b) ≡ to a b
  days_kept e =
      let g = orders a b b day_limit e in
      let x : narrow a ≡ a = omega arith in
      let y : narrow b ≡ b = omega arith in
      ap₂ to x y

  pub ask_narrow : asked s (to (narrow a) (narrow b)) ≡ asked s (to a b)
  unfolding asked
  ask_narrow = by_test (legal_on day_limit (to a b)) refl
    where
      by_test : (t : Bool) → legal_on day_limit (to a b) ≡ t → asked s (to (narrow a) (narrow b)) ≡ asked s (to a b)
      by_test true e = ap (asked s) (days_kept e)
      by_test false e = rw (legal_narrow a b, e) refl

  pub record_narrow : (v : ℕ) → recorded s (to (narrow a) (narrow b)) (narrow v) ≡ recorded s (to a b) v
  unfolding recorded
  record_narrow v = by_test (legal_on day_limit (to a b)) (leb v gust_limit) refl refl
    where
      by_test : (t u : Bool) → legal_on day_limit (to a b) ≡ t → leb v gust_limit ≡ u → recorded s (to (narrow a) (narrow b)) (narrow v) ≡ recorded s (to a b) v
      by_test true true e f = ap₂ (recorded s) (days_kept e) (few v (leb-true v gust_limit f))
        where
          few : (v : ℕ) → v ≤ gust_limit → narrow v ≡ v
          few v h = omega arith
      by_test true false e f = rw (legal_narrow a b, narrow_passes v, e, f) refl
      by_test false u e f = rw (legal_narrow a b, e) refl

-- the call as a whole
pub strip_recorded : (s : Lent) (w : List ℕ) (days : Range) (v n : ℕ) (l : Left) → days ≡ narrow_days w → n ≡ narrow v → l ≡ recorded s days n → l ≡ recorded s (days_of w) v
strip_recorded s w days v n l p q e = e ∙ ap₂ (recorded s) p q ∙ record_narrow s (get_or w 0 0) (get_or w 1 0) v

pub strip_asked : (s : Lent) (w lent : List ℕ) (days : Range) (a : Result (Option ℕ) Refusal) (y : Told) → days ≡ narrow_days w → a ≡ asked s days → y ≡ strip_told a lent → y ≡ strip_told (asked s (days_of w)) lent
strip_asked s w lent days a y p q e = e ∙ ap (λ x. strip_told x lent) (q ∙ ap (asked s) p ∙ ask_narrow s (get_or w 0 0) (get_or w 1 0))

-- Each promise settles all that a call on a strip returns and leaves: two results that it allows are equal. (Asking: `told_settled`.)
pub strip_settled : (x a b : Left) → a ≡ x → b ≡ x → (a.refusal ≡ b.refusal) × (a.strip.words ≡ b.strip.words) × (a.strip.count ≡ b.strip.count)
strip_settled x a b e f =
    let g = e ∙ sym f in
    (ap (λ (y : Left). y.refusal) g, ap (λ (y : Left). y.strip.words) g, ap (λ (y : Left). y.strip.count) g)
