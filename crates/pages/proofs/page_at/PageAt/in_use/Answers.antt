use Rattle.std.proofs.Common.{length, ap, arith}
use Rattle.pages.specs.Layout.{page_of}
use Rattle.pages.specs.Summary.{in_use}
use Rattle.pages.specs.ViewLaws.{used_length}
use Rattle.pages.specs.declared.Page.{Page}
use Rattle.pages.proofs.page_at.PageAt.in_use.Goals as goal

pub returns : goal.returns
unfolding page_of
returns c =
    let n = used_length c.self.inside.words.now in
    let same = ap (λ (x : Page). length (in_use x)) c.self.view_is in
    (omega arith, omega (arith, n, same))
