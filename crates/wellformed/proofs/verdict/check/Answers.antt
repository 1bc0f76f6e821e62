use Rattle.std.proofs.Common.{ap, ◌∙◌}
use Rattle.std.specs.Prelude.{ok_or}
use Rattle.ground.specs.declared.refusals.Refusal.TheVariants as no
use Rattle.wellformed.specs.VerdictLaws.{checked_so}
use Rattle.wellformed.proofs.verdict.check.Goals as goal

pub returns : goal.returns
returns c = c.ok_or.ensures.value ∙ ap (λ r. ok_or r no.Damaged) c.held_records.ensures ∙ checked_so _ _
