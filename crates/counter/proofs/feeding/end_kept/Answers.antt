use Rattle.counter.specs.FeedSteps.{ended_kept}
use Rattle.counter.proofs.feeding.end_kept.Goals as goal

pub returns : goal.returns
returns c = rw c.clear.ensures (ended_kept _ _ _ c.requires _ _ _ _ (rw c.as_slice.ensures at c.serve-s.ensures))
