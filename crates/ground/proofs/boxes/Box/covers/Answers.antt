use Rattle.ground.specs.Boxes.{covers}
use Rattle.ground.proofs.boxes.Box.covers.Goals as goal

pub returns : goal.returns
unfolding covers
returns c = rw (c.covers.ensures, c.covers-2.ensures, c.covers-3.ensures)
