use Rattle.pages.specs.WritingLaws.{zeros_placed}
use Rattle.pages.proofs.writing.free_page.Goals as goal

pub returns : goal.returns
returns c = zeros_placed _ _ _ c.requires (c.fill.ensures.after (λ y e. e))
