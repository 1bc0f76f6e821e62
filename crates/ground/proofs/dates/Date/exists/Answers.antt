use Rattle.ground.specs.Dates.{is_date}
use Rattle.ground.proofs.dates.Date.exists.Goals as goal

pub returns : goal.returns
unfolding is_date
returns c = rw c.length_of_month.ensures
