-- A book's numbers have 16 bits, one that is typed up to five digits, one that a program hands in 32 bits. One that does not fit becomes the greatest that does, which
-- is above every limit too: refusals 2 and 3 are given for the one as for the other.
use Rattle.std.specs.Prelude.{true, ◌≡◌, ℕ, ◌≤◌, ◌<◌, min, leb}
use Rattle.std.proofs.Common.{arith, leb-true, le-leb}
use Rattle.ground.specs.Boxes.{east_limit, north_limit, day_limit, gust_limit, legal_on, legal}
use Rattle.ground.specs.Tests.{orders, ordered, same_test, three}
use Rattle.ground.specs.declared.boxes.Range.{Range}
use Rattle.ground.specs.declared.boxes.Box.{Box}
use Rattle.wide.specs.declared.Span.{Span}
use Rattle.wide.specs.declared.WideBox.{WideBox}

abbrev pub greatest : ℕ
greatest = 65_535

abbrev pub narrow : ℕ → ℕ
narrow n = min n greatest

abbrev pub narrow_on : Span → Range
narrow_on s = record { low = narrow s.low; high = narrow s.high }

abbrev pub narrowed : WideBox → Box
narrowed t = record { east = narrow_on t.east; north = narrow_on t.north; day = narrow_on t.day }

-- The box of the very numbers that were given.
abbrev as_range : Span → Range
as_range s = record { low = s.low; high = s.high }

abbrev pub as_given : WideBox → Box
as_given t = record { east = as_range t.east; north = as_range t.north; day = as_range t.day }

-- on an axis whose limit fits 16 bits
legal_on_lem : (limit : ℕ) (s : Span) → limit < greatest → legal_on limit (narrow_on s) ≡ legal_on limit (as_range s)
legal_on_lem limit s h =
    same_test (legal_on limit (narrow_on s)) (legal_on limit (as_range s))
    (λ e. let g = orders (narrow s.low) (narrow s.high) (narrow s.high) limit e in ordered s.low s.high s.high limit (omega arith) (omega arith))
    (λ e. let g = orders s.low s.high s.high limit e in ordered (narrow s.low) (narrow s.high) (narrow s.high) limit (omega arith) (omega arith))

-- Rules 7.2, 7.3: refusal 2 is given for the box as for the numbers given, and refusal 3 for the gust
pub narrow_legal : (t : WideBox) → legal (narrowed t) ≡ legal (as_given t)
unfolding legal
narrow_legal t =
    rw (legal_on_lem east_limit t.east (omega arith), legal_on_lem north_limit t.north (omega arith), legal_on_lem day_limit t.day (omega arith))

pub narrow_passes : (n : ℕ) → leb (narrow n) gust_limit ≡ leb n gust_limit
narrow_passes n =
    same_test (leb (narrow n) gust_limit) (leb n gust_limit)
    (λ e. le-leb n gust_limit (omega (arith, leb-true (narrow n) gust_limit e)))
    (λ e. le-leb (narrow n) gust_limit (omega (arith, leb-true n gust_limit e)))

-- a legal box is the one that was given
pub narrow_keeps : (t : WideBox) → legal (as_given t) ≡ true → narrowed t ≡ as_given t
unfolding legal
narrow_keeps t e =
    let h = three (legal_on east_limit (as_range t.east)) (legal_on north_limit (as_range t.north)) (legal_on day_limit (as_range t.day)) e in
    let a = orders t.east.low t.east.high t.east.high east_limit h.0 in
    let b = orders t.north.low t.north.high t.north.high north_limit h.1 in
    let c = orders t.day.low t.day.high t.day.high day_limit h.2 in
    rw (fits t.east.low (omega arith), fits t.east.high (omega arith), fits t.north.low (omega arith), fits t.north.high (omega arith), fits t.day.low (omega arith), fits t.day.high (omega arith))
  where
    fits : (n : ℕ) → n ≤ greatest → narrow n ≡ n
    fits n p = omega arith
