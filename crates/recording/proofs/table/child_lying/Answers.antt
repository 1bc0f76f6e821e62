use Rattle.std.proofs.Common.{arith, sym, ◌∙◌}
use Rattle.recording.specs.TableSteps.{child_there, child_past, child_out}
use Rattle.recording.proofs.table.child_lying.Goals as goal

pub returns-in_default : goal.returns-in_default
returns-in_default c = child_out c.args.t.now c.args.p c.args.i (sym c.get.ensures ∙ c.in_default.is)

pub returns-then-in_use-i : goal.returns-then-in_use-i
returns-then-in_use-i c = child_past c.args.t.now c.args.p c.args.i c.in-Some.page (sym c.get.ensures ∙ c.in-Some.is) (omega arith)

pub returns : goal.returns
returns c = child_there c.args.t.now c.args.p c.args.i _ c.in-Some.page c.entry.result (sym c.get.ensures ∙ c.in-Some.is) (omega arith) c.entry.ensures c.child.ensures
