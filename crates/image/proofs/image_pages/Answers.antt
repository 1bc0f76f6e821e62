use Rattle.std.proofs.Common.{◌∙◌}
use Rattle.image.proofs.Whole.{pages_told}
use Rattle.image.proofs.image_pages.Goals as goal

pub returns : goal.returns
returns c = c.then_some.ensures ∙ pages_told c.args.length
