use Rattle.std.proofs.Common.{true, false, length}
use Rattle.counter.specs.FeedSteps.{counter_of}
use Rattle.serving.specs.Serving.{Served}
use Rattle.serving.proofs.serve_all.Given as goal

abbrev pub invariant-loop : goal.invariant-loop
invariant-loop g l = Served (counter_of l.initial.t l.initial.out l.initial.s) (length l.initial.input) l.t l.out l.s true false
