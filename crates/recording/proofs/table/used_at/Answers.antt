use Rattle.std.proofs.Common.{sym, ◌∙◌}
use Rattle.recording.specs.TableSteps.{used_in, used_out}
use Rattle.recording.proofs.table.used_at.Goals as goal

pub returns-in_default : goal.returns-in_default
returns-in_default c = used_out c.args.t.now c.args.p (sym c.get.ensures ∙ c.in_default.is)

pub returns : goal.returns
returns c = used_in c.args.t.now c.args.p _ c.in-Some.page (sym c.get.ensures ∙ c.in-Some.is) c.in_use.ensures
