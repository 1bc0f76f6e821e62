use Rattle.std.proofs.Common.{◌∙◌, sym, ap, drop, length}
use Rattle.pages.specs.Layout.{words_of_entries}
use Rattle.pages.specs.Summary.{in_use}
use Rattle.pages.specs.Words.{all_zero}
use Rattle.pages.specs.ViewLaws.{unused_words}
use Rattle.pages.specs.declared.Page.{Page}
use Rattle.pages.proofs.page_at.PageAt.unused_is_zero.Goals as goal

pub returns : goal.returns
returns c =
    c.are_zero.ensures
    ∙ ap all_zero (unused_words c.self.inside.words.now c.in_use.result c.self.invariant (c.in_use.ensures.1 ∙ ap (λ (x : Page). length (in_use x)) (sym c.self.view_is)))
    ∙ ap (λ (x : Page). all_zero (words_of_entries (drop x.count x.entries))) c.self.view_is
