-- The calendar. Day 0 is 1880-01-01; the last day is 2039-12-31.
use Rattle.std.specs.Prelude.{Option, Some, None, ℕ, ◌+◌, ◌-◌, ◌%◌, Bool, true, false, ◌&&◌, ◌||◌, not, cond, List, [], ◌∷◌, leb, ltb, eqb, get_or}
use Rattle.ground.specs.Sums.{total}
use Rattle.ground.specs.declared.dates.Date.{Date}

abbrev pub first_year : ℕ
first_year = 1_880

abbrev pub last_year : ℕ
last_year = 2_039

-- The last date of the calendar. Its number is the day limit (`limit_is_last`).
abbrev pub last_date : Date
last_date = record { year = last_year; month = 12; day = 31 }

-- Rule 1.33: a year has 366 days if its number divides by 4 and not by 100, or divides by 400.
abbrev pub divides_by : ℕ → ℕ → Bool
divides_by y n = eqb (y % n) 0

abbrev pub leap : ℕ → Bool
leap y = divides_by y 4 && not (divides_by y 100) || divides_by y 400

unfoldable pub length_of_year : ℕ → ℕ
length_of_year y = cond (leap y) 366 365

-- Rule 1.34: month lengths stand in a table of twelve, with February by the year. No year has a month 0 or 13.
abbrev pub month_lengths : List ℕ
month_lengths = 31 ∷ 28 ∷ 31 ∷ 30 ∷ 31 ∷ 30 ∷ 31 ∷ 31 ∷ 30 ∷ 31 ∷ 30 ∷ 31 ∷ []

unfoldable pub length_of_month : ℕ → ℕ → ℕ
length_of_month y m = cond (eqb m 2 && leap y) 29 (get_or (0 ∷ month_lengths) m 0)

-- Rule 1.32: a date of the calendar has a year from 1880 to 2039, and a day from 1 to the length of its month.
unfoldable pub is_date : Date → Bool
is_date d = leb first_year d.year && leb d.year last_year && leb 1 d.day && leb d.day (length_of_month d.year d.month)

-- The days of all years from 1880 to the one before, and of all months of the year from the first to the one before.
unfoldable pub days_before_year : ℕ → ℕ
days_before_year y = total (λ n. length_of_year (first_year + n)) (y - first_year)

unfoldable pub days_before_month : ℕ → ℕ → ℕ
days_before_month y m = total (λ n. length_of_month y (n + 1)) (m - 1)

-- Rule 1.31: the number of a date is the number of days before it; day 0 is the first of January 1880.
unfoldable pub day_number : Date → ℕ
day_number d = days_before_year d.year + days_before_month d.year d.month + (d.day - 1)

unfoldable pub day_of : Date → Option ℕ
day_of d = cond (is_date d) (Some (day_number d)) None

-- One date is earlier than another by year, then month, then day.
unfoldable pub earlier : Date → Date → Bool
earlier a b =
    ltb a.year b.year
    || eqb a.year b.year
    && (ltb a.month b.month || eqb a.month b.month && ltb a.day b.day)
