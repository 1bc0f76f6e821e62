use Rattle.counter.specs.Counter.{longer}
use Rattle.counter.specs.FeedSteps.{ended_here}
use Rattle.counter.proofs.feeding.end_line.Goals as goal

pub returns-then-is_empty : goal.returns-then-is_empty
returns-then-is_empty c = ended_here _ _ _ c.requires _ _ _ _ _ (c.is_empty.ensures.0 c.if-is_empty.true) c.serve-s.ensures

pub returns : goal.returns
unfolding longer
returns c = rw c.push.ensures at c.end_kept.ensures
