use Rattle.std.proofs.Common.{length}
use Rattle.counter.specs.FeedSteps.{counter_of}
use Rattle.counter.specs.Feeding.{Feeding}
use Rattle.counter.proofs.feeding.feed.Given as goal

abbrev pub invariant-loop-end : goal.invariant-loop-end
invariant-loop-end l = Feeding (counter_of l.initial.t l.initial.out l.initial.s) l.initial.rest l.initial.out l.rest l.t l.out l.s

abbrev pub decreases-loop-end : goal.decreases-loop-end
decreases-loop-end l = length l.rest
