use Rattle.counter.specs.Feeding.{opened}
use Rattle.counter.proofs.feeding.open.Goals as goal

pub returns : goal.returns
returns c = opened _ _ _ _ _ c.clear.result c.empty-small.ensures c.clear.ensures c.of.ensures
