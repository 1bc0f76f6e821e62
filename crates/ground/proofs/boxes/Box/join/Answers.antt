use Rattle.ground.specs.Boxes.{join}
use Rattle.ground.proofs.boxes.Box.join.Goals as goal

pub returns : goal.returns
unfolding join
returns c = rw (c.join.ensures, c.join-2.ensures, c.join-3.ensures)
