use Rattle.serving.specs.ServingLaws.{came_in}
use Rattle.serving.proofs.take_in.Goals as goal

pub returns : goal.returns
returns g c = rw c.ok.ensures.value (came_in c.read.new.buf c.read.result c.read.ensures.bound)
