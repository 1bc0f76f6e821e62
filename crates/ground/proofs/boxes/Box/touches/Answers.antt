use Rattle.ground.specs.Boxes.{touches}
use Rattle.ground.proofs.boxes.Box.touches.Goals as goal

pub returns : goal.returns
unfolding touches
returns c = rw (c.touches.ensures, c.touches-2.ensures, c.touches-3.ensures)
