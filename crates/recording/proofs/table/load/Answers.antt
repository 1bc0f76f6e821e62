use Rattle.std.proofs.Common.{sym, ◌∙◌}
use Rattle.recording.specs.TableSteps.{page_lying, page_lacking}
use Rattle.recording.proofs.table.load.Goals as goal

pub returns-in_default : goal.returns-in_default
returns-in_default c = c.blank_page.ensures ∙ page_lacking c.args.t.now c.args.p (sym c.get.ensures ∙ c.in_default.is)

pub returns : goal.returns
returns c = c.read.ensures ∙ page_lying c.args.t.now c.args.p c.in-Some.page (sym c.get.ensures ∙ c.in-Some.is)
