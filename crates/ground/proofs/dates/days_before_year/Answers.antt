use borrow.Author.Rules.{rules}
use Rattle.ground.specs.YearLaws.{no_years, years_before}
use Rattle.ground.proofs.dates.days_before_year.Goals as goal

pub returns-then-year-lt-FIRST_YEAR : goal.returns-then-year-lt-FIRST_YEAR
returns-then-year-lt-FIRST_YEAR c = no_years _ (search rules)

pub returns : goal.returns
returns c = years_before _
