use Rattle.pages.specs.ViewLaws.{page_cut}
use Rattle.pages.proofs.page_at.PageAt.of.Goals as goal

pub returns : goal.returns
returns c = page_cut c.args.t.now c.args.p c.requires
