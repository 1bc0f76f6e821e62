use Rattle.std.proofs.Common.{arith}
use Rattle.serving.specs.ServingLaws.{none_served, served_more}
use Rattle.serving.proofs.serve_all.Goals as goal

pub loop-init : goal.loop-init
loop-init g c = none_served _ _ _ _ c.requires

pub returns-in-Some : goal.returns-in-Some
returns-in-Some g c = rw c.in-Some.is at (served_more _ _ _ _ _ c.loop.invariant _ _ _ _ c.turn-end.result (omega arith) c.turn-end.ensures _ c.written.ensures)

pub loop-preserved : goal.loop-preserved
loop-preserved g c = rw c.in_default.is at (served_more _ _ _ _ _ c.loop.invariant _ _ _ _ c.turn-end.result (omega arith) c.turn-end.ensures _ c.written.ensures)
