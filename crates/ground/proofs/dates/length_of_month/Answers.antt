use borrow.Author.Rules.{rules}
use Rattle.ground.specs.DateLaws.{no_month_zero, no_month_past, leap_february, month_in_table}
use Rattle.ground.proofs.dates.length_of_month.Goals as goal

pub returns-then-month-lt1 : goal.returns-then-month-lt1
returns-then-month-lt1 c = no_month_zero _ _ (search rules)

pub returns-then-month-gt12 : goal.returns-then-month-gt12
returns-then-month-gt12 c = no_month_past _ _ (search rules)

pub returns-then-month-leap_year : goal.returns-then-month-leap_year
returns-then-month-leap_year c = leap_february _ _ _ c.leap_year.ensures c.if-month-leap_year.true

pub returns : goal.returns
returns c = month_in_table _ _ _ c.leap_year.ensures (search rules) c.if-month-leap_year.false
