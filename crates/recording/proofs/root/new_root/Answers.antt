use native.Mathlib.Omega.{arith}
use Rattle.recording.specs.SettleSteps.{free_number}
use Rattle.recording.proofs.root.new_root.Goals as goal

pub overflow_cast-result : goal.overflow_cast-result
overflow_cast-result c = omega (arith, free_number c.args.t.now c.in-Some.q c.requires c.in-Some.ensures)
