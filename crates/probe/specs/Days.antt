-- A date's number as the probe tells it: 65,536, which no day has, for a date that the calendar lacks.
use Rattle.std.specs.Prelude.{Some, None, Option, ℕ}
use Rattle.ground.specs.declared.dates.Date.{Date}

abbrev pub date_of : ℕ → ℕ → ℕ → Date
date_of y m d = record { year = y; month = m; day = d }

abbrev pub number_told : Option ℕ → ℕ
number_told (Some n) = n
number_told None = 65_536
