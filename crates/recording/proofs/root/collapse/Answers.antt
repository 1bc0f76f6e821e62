use Rattle.std.proofs.Common.{rules, arith}
use Rattle.recording.specs.RootSteps.{collapse_turn, collapse_done, collapse_out}
use Rattle.recording.proofs.root.collapse.Goals as goal

pub returns-then-not-one_entry : goal.returns-then-not-one_entry
returns-then-not-one_entry c = collapse_done _ c.loop.r _ _ c.one_entry.result _ c.one_entry.ensures c.if-not-one_entry.true c.loop.invariant

pub loop-preserved : goal.loop-preserved
loop-preserved c = collapse_turn c.args.n c.loop.counter c.loop.r _ _ _ _ _ c.one_entry.result _ (omega arith) c.one_entry.ensures c.if-not-one_entry.false c.from.ensures c.child_lying-child.ensures (rw c.from-in-loop.ensures at c.release.ensures) c.loop.invariant

pub returns : goal.returns
returns c = collapse_out _ c.loop.r _ _ _ (omega arith) c.loop.invariant
