use Rattle.ground.specs.Boxes.{legal}
use Rattle.ground.proofs.boxes.Box.legal.Goals as goal

pub returns : goal.returns
unfolding legal
returns c = rw (c.legal.ensures, c.legal-2.ensures, c.legal-3.ensures)
