use Rattle.serving.specs.ServingLaws.{took_so}
use Rattle.serving.proofs.offer.Goals as goal

pub returns : goal.returns
returns g c = rw c.unwrap_or.ensures (took_so c.args.bytes.now c.write.result c.write.ensures.bound)
