-- The days before a year in closed form: all that the code knows of the leap rule beyond one year.
use Rattle.std.specs.Prelude.{Bool, true, false, ◌&&◌, ◌||◌, not, cond, ◌≡◌, refl, ℕ, zero, suc, ◌+◌, ◌-◌, ◌*◌, ◌/◌, ◌%◌, ◌≤◌, ◌<◌, eqb}
use Rattle.std.proofs.lemmas.Bool.{false≢true, eqb-false}
use Rattle.std.proofs.Common.{sym, arith, eqb-true, eq-eqb}
use Rattle.ground.specs.Dates.{first_year, divides_by, leap, length_of_year, days_before_year}
use Rattle.ground.specs.Sums.{total}

-- each fourth year from 1880 on has a leap day, but of the hundredths, from 1900 on, only each four-hundredth, from 2000 on
abbrev leap_days : ℕ → ℕ
leap_days n = (n + 3) / 4 - (n + 79) / 100 + (n + 279) / 400

abbrev one_if : Bool → ℕ
one_if t = cond t 1 0

fourths : (n : ℕ) (t : Bool) → divides_by (first_year + n) 4 ≡ t → (suc n + 3) / 4 ≡ (n + 3) / 4 + one_if t
fourths n true e = let d = eqb-true ((first_year + n) % 4) 0 e in omega arith
fourths n false e = let d = eqb-false ((first_year + n) % 4) 0 e in omega arith

hundredths : (n : ℕ) (t : Bool) → divides_by (first_year + n) 100 ≡ t → (suc n + 79) / 100 ≡ (n + 79) / 100 + one_if t
hundredths n true e = let d = eqb-true ((first_year + n) % 100) 0 e in omega arith
hundredths n false e = let d = eqb-false ((first_year + n) % 100) 0 e in omega arith

four_hundredths : (n : ℕ) (t : Bool) → divides_by (first_year + n) 400 ≡ t → (suc n + 279) / 400 ≡ (n + 279) / 400 + one_if t
four_hundredths n true e = let d = eqb-true ((first_year + n) % 400) 0 e in omega arith
four_hundredths n false e = let d = eqb-false ((first_year + n) % 400) 0 e in omega arith

-- a hundredth is a fourth, and a four-hundredth is a hundredth
hundredth_is_fourth : (y : ℕ) → divides_by y 100 ≡ true → divides_by y 4 ≡ true
hundredth_is_fourth y e = let d = eqb-true (y % 100) 0 e in eq-eqb (y % 4) 0 (omega arith)

four_hundredth_is_hundredth : (y : ℕ) → divides_by y 400 ≡ true → divides_by y 100 ≡ true
four_hundredth_is_hundredth y e = let d = eqb-true (y % 400) 0 e in eq-eqb (y % 100) 0 (omega arith)

-- one more year adds its leap day; a, b, c: whether its number divides by 4, 100, 400, and f, h, q: how many did before
one_more : (a b c : Bool) (f h q : ℕ) → (b ≡ true → a ≡ true) → (c ≡ true → b ≡ true) → h ≤ f → cond (a && not b || c) 366 365 + (f - h + q) ≡ 365 + (f + one_if a - (h + one_if b) + (q + one_if c))
one_more true true true f h q k l p = omega arith
one_more true true false f h q k l p = omega arith
one_more true false false f h q k l p = omega arith
one_more false false false f h q k l p = omega arith
one_more a false true f h q k l p = absurd (false≢true (l refl))
one_more false true c f h q k l p = absurd (false≢true (k refl))

years_closed : (n : ℕ) → total (λ k. length_of_year (first_year + k)) n ≡ n * 365 + leap_days n
unfolding total length_of_year
years_closed zero = refl
years_closed (suc n) =
    let y = first_year + n in
    let h = years_closed n in
    let d = one_more (divides_by y 4) (divides_by y 100) (divides_by y 400) ((n + 3) / 4) ((n + 79) / 100) ((n + 279) / 400) (hundredth_is_fourth y) (four_hundredth_is_hundredth y) (omega arith) in
    rw (fourths n (divides_by y 4) refl, hundredths n (divides_by y 100) refl, four_hundredths n (divides_by y 400) refl) (omega (arith, h, d))

pub no_years : (y : ℕ) → y < first_year → 0 ≡ days_before_year y
unfolding days_before_year total
no_years y p = let e : y - first_year ≡ 0 = omega arith in rw e

pub years_before : (y : ℕ) → (y - first_year) * 365 + leap_days (y - first_year) ≡ days_before_year y
unfolding days_before_year
years_before y = sym (years_closed (y - first_year))
