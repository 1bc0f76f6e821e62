use mathlib.Core.Bool.{not}
use mathlib.Core.Path.{sym, ap, ◌∙◌}
use native.Mathlib.Omega.{arith}
use Rattle.ground.specs.DateLaws.{day_lacks, Counted, counted}
use Rattle.ground.proofs.dates.Date.day_number.Goals.{After-days_before_month}
use Rattle.ground.proofs.dates.Date.day_number.Goals as goal

known : (c : After-days_before_month) → Counted c.args.self c.days_before_year.result c.days_before_month.result
known c =
    counted _ _ _ (ap not (sym c.exists.ensures ∙ c.if-not-exists.false)) c.days_before_year.ensures c.days_before_month.ensures

pub returns-then-not-exists : goal.returns-then-not-exists
returns-then-not-exists c = day_lacks _ (ap not (sym c.exists.ensures ∙ c.if-not-exists.true))

pub overflow_add-before : goal.overflow_add-before
overflow_add-before c = record { fits = omega (arith, (known c).most) }

pub overflow_sub-result : goal.overflow_sub-result
overflow_sub-result c = (known (goal.at.overflow_sub-result c).After-days_before_month).start

pub overflow_add-result : goal.overflow_add-result
overflow_add-result c = record { fits = omega (arith, (known (goal.at.overflow_add-result c).After-days_before_month).most) }

pub overflow_cast-result-2 : goal.overflow_cast-result-2
overflow_cast-result-2 c = record { fits = omega (arith, (known (goal.at.overflow_cast-result-2 c).After-days_before_month).most) }

pub returns : goal.returns
returns c = (known (goal.at.returns c).After-days_before_month).is
