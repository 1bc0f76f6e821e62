use Rattle.std.proofs.Common.{◌∙◌, sym, ap, Some}
use Rattle.pages.specs.ViewLaws.{page_got, page_past}
use Rattle.pages.proofs.page_at.PageAt.get.Goals as goal

pub returns-then-p-t : goal.returns-then-p-t
returns-then-p-t c = ap Some c.of.ensures ∙ sym (page_got c.args.t.now c.args.p c.if-p-t.true)

pub returns-else-p-t : goal.returns-else-p-t
returns-else-p-t c = sym (page_past c.args.t.now c.args.p c.if-p-t.false)
