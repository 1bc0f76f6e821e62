use Rattle.std.proofs.Common.{◌∙◌, ap}
use Rattle.pages.specs.Layout.{words_of_page}
use Rattle.pages.specs.Words.{all_zero}
use Rattle.pages.specs.ViewLaws.{page_whole}
use Rattle.pages.specs.declared.Page.{Page}
use Rattle.pages.proofs.page_at.PageAt.is_zero.Goals as goal

pub returns : goal.returns
returns c = c.are_zero.ensures ∙ ap all_zero (page_whole c.self.inside.words.now c.self.invariant) ∙ ap (λ (x : Page). all_zero (words_of_page x)) c.self.view_is
