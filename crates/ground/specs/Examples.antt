-- The examples of RULES.md, section 9, that belong to the ground floor, each by computation.
use Rattle.std.specs.Prelude.{true, false, ◌≡◌, refl, ℕ}
use Rattle.std.proofs.Math.Bool.{xor}
use Rattle.ground.specs.Boxes.{touches_on, touches, covers, legal, gust_passes}
use Rattle.ground.specs.Cutting.{covers_one_end, cuts_on, left_on, left, cut}
use Rattle.ground.specs.Dates.{length_of_year, length_of_month, is_date, days_before_year, days_before_month, day_number, day_of}
use Rattle.ground.specs.DateLaws.{limit_is_last}
use Rattle.ground.specs.Sums.{total}
use Rattle.ground.specs.declared.boxes.Range.{Range}
use Rattle.ground.specs.declared.boxes.Box.{Box}
use Rattle.ground.specs.declared.boxes.Cut.TheVariants.{Left, Unchanged}
use Rattle.ground.specs.declared.dates.Date.{Date}
use Rattle.std.specs.Prelude.{Some, None}
use Rattle.ground.specs.declared.gusts.Gust.{Gust}

abbrev to : ℕ → ℕ → Range
to a b = record { low = a; high = b }

abbrev date : ℕ → ℕ → ℕ → Date
date y m d = record { year = y; month = m; day = d }

abbrev east_only : Range → Box
east_only r = record { east = r; north = to 0 9; day = to 0 9 }

abbrev gust : ℕ → Gust
gust n = record { tenths = n }

-- Rules 9.2, 9.3, 9.4, P: 1880-03-01 is day 60; 1900-01-01 is 7,305; 2039-12-31 is 58,438, the day limit
pub first_of_march : day_of (date 1_880 3 1) ≡ Some 60
unfolding day_of is_date length_of_month day_number days_before_year days_before_month length_of_year total
first_of_march = refl

pub new_century : day_of (date 1_900 1 1) ≡ Some 7_305
unfolding day_of is_date length_of_month day_number days_before_year days_before_month length_of_year total
new_century = refl

pub last_day : day_of (date 2_039 12 31) ≡ Some 58_438
last_day = limit_is_last

-- Rule 9.a: 1900 had no 29 February, so 1900-03-01 is day 7,364; 2000 had one
pub no_leap_day_in_1900 : day_of (date 1_900 2 29) ≡ None
unfolding day_of is_date length_of_month
no_leap_day_in_1900 = refl

pub march_of_1900 : day_of (date 1_900 3 1) ≡ Some 7_364
unfolding day_of is_date length_of_month day_number days_before_year days_before_month length_of_year total
march_of_1900 = refl

pub leap_day_in_2000 : day_of (date 2_000 2 29) ≡ Some 43_888
unfolding day_of is_date length_of_month day_number days_before_year days_before_month length_of_year total
leap_day_in_2000 = refl

-- the day before the first, the day after the last, and the 30th of February are no dates
pub before_the_first : day_of (date 1_879 12 31) ≡ None
unfolding day_of is_date
before_the_first = refl

pub after_the_last : day_of (date 2_040 1 1) ≡ None
unfolding day_of is_date
after_the_last = refl

pub thirtieth_of_february : day_of (date 1_904 2 30) ≡ None
unfolding day_of is_date length_of_month
thirtieth_of_february = refl

-- Rule 9.5, P: held 15 to 20, new 10 to 29, other axes equal: not cut, since two ends would stay
pub two_ends_stay : cut (east_only (to 15 20)) (east_only (to 10 29)) ≡ Unchanged
unfolding cut cuts_on covers_one_end covers touches xor
two_ends_stay = refl

-- held 10 to 29, new 15 to 35, other axes equal: cut to 30 to 35
pub one_end_stays : cut (east_only (to 10 29)) (east_only (to 15 35)) ≡ Left (east_only (to 30 35))
unfolding cut cuts_on covers_one_end covers touches xor left left_on
one_end_stays = refl

-- Rule 1.18: ranges 5 to 10 and 11 to 20 do not touch, and 5 to 10 and 10 to 20 do
pub neighbours : touches_on (to 5 10) (to 11 20) ≡ false
neighbours = refl

pub shared_end : touches_on (to 5 10) (to 10 20) ≡ true
shared_end = refl

-- Rule 9.8: east high 4,095 passes, 4,096 not; gust 1,200 passes, 1,201 is refused
pub widest : legal (east_only (to 0 4_095)) ≡ true
unfolding legal
widest = refl

pub too_wide : legal (east_only (to 0 4_096)) ≡ false
unfolding legal
too_wide = refl

pub strongest : gust_passes (gust 1_200) ≡ true
strongest = refl

pub too_strong : gust_passes (gust 1_201) ≡ false
too_strong = refl
