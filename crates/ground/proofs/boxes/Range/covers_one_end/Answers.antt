use mathlib.Core.Bool.{xor}
use Rattle.ground.specs.Cutting.{covers_one_end}
use Rattle.ground.proofs.boxes.Range.covers_one_end.Goals as goal

pub returns : goal.returns
unfolding covers_one_end xor
returns c = rw (c.holds.ensures, c.holds-2.ensures)
