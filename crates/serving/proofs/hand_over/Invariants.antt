use Rattle.std.proofs.Common.{length}
use Rattle.serving.specs.Serving.{Handing}
use Rattle.serving.proofs.hand_over.Given as goal

abbrev pub invariant-loop-rest : goal.invariant-loop-rest
invariant-loop-rest g l = Handing l.bytes l.rest

abbrev pub decreases-loop-rest : goal.decreases-loop-rest
decreases-loop-rest g l = length l.rest
