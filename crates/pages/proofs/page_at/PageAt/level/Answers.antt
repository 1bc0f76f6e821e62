use Rattle.std.proofs.Common.{ap}
use Rattle.pages.specs.Layout.{page_of}
use Rattle.pages.specs.declared.Page.{Page}
use Rattle.pages.proofs.page_at.PageAt.level.Goals as goal

pub returns : goal.returns
unfolding page_of
returns c = ap (λ (x : Page). x.level) c.self.view_is
