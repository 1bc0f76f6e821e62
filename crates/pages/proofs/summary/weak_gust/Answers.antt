use Rattle.std.proofs.Common.{◌∙◌, ap, get_or}
use Rattle.pages.specs.GatherLaws.{weak_gust_at}
use Rattle.pages.proofs.summary.weak_gust.Goals as goal

pub returns : goal.returns
returns c = ap (λ w. get_or w c.by_level.result 0) c.words.ensures.0 ∙ weak_gust_at c.args.entry.now c.args.level c.by_level.result c.by_level.ensures
