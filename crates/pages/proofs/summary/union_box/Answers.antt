use Rattle.std.proofs.Common.{◌∙◌, ap}
use Rattle.pages.specs.Layout.{box_at}
use Rattle.pages.specs.GatherLaws.{union_box_at}
use Rattle.pages.proofs.summary.union_box.Goals as goal

pub returns : goal.returns
returns c = c.box_at.ensures ∙ ap (λ w. box_at w c.by_level.result) c.words.ensures.0 ∙ union_box_at c.args.entry.now c.args.level c.by_level.result c.by_level.ensures
