use Rattle.std.proofs.Common.{◌∙◌, get_or, ap}
use Rattle.pages.specs.Layout.{zero_entry}
use Rattle.pages.specs.ViewLaws.{entry_of_page}
use Rattle.pages.specs.declared.Page.{Page}
use Rattle.pages.proofs.page_at.PageAt.entry.Goals as goal

pub returns : goal.returns
returns c =
    c.of.ensures
    ∙ entry_of_page c.self.inside.words.now c.args.i c.self.invariant c.requires
    ∙ ap (λ (x : Page). get_or x.entries c.args.i zero_entry) c.self.view_is
