use Rattle.recording.specs.LyingSteps.{exact_in, exact_out}
use Rattle.recording.proofs.settle.make_exact.Goals as goal

pub returns-then-i-n : goal.returns-then-i-n
returns-then-i-n c = exact_in c.args.t.now c.args.p c.requires.1 _ c.args.i c.used_at-n.result c.child_lying.result c.summary-e.result c.used_at-n.ensures c.if-i-n.true c.child_lying.ensures c.summary-e.ensures c.put_at.ensures

pub returns-else-i-n : goal.returns-else-i-n
returns-else-i-n c = exact_out _ _ c.requires.1 _ c.used_at-n.result c.used_at-n.ensures c.if-i-n.false
