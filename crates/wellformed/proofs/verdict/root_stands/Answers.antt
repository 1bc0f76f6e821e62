use Rattle.std.proofs.Common.{◌∙◌, sym}
use Rattle.wellformed.specs.VerdictLaws.{root_outside, root_inside}
use Rattle.wellformed.proofs.verdict.root_stands.Goals as goal

pub returns-in_default : goal.returns-in_default
returns-in_default c = root_outside _ c.args.s (sym c.get.ensures ∙ c.in_default.is)

pub returns : goal.returns
returns c = root_inside _ c.args.s c.in-Some.root _ (sym c.get.ensures ∙ c.in-Some.is) (c.from.ensures ∙ c.level.ensures)
