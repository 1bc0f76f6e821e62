use Rattle.std.proofs.Common.{refl, sym, ◌∙◌}
use Rattle.recording.specs.LookSteps.{not_met, met_by}
use Rattle.recording.specs.Views.{sought_of}
use Rattle.recording.proofs.scan.Sought.meet.Goals as goal

pub returns-then-self-reaches : goal.returns-then-self-reaches
returns-then-self-reaches c = not_met (sought_of c.args.self) _ _ _ c.on_two_axes.ensures c.if-self-reaches.true

pub returns-in-Covered : goal.returns-in-Covered
returns-in-Covered c = met_by (sought_of c.args.self) _ _ _ _ _ c.if-self-reaches.false (sym c.in-Covered.is ∙ c.cut_by.ensures) refl

pub returns-in-Left : goal.returns-in-Left
returns-in-Left c = met_by (sought_of c.args.self) _ _ _ _ _ c.if-self-reaches.false (sym c.in-Left.is ∙ c.cut_by.ensures) refl

pub returns-in-Unchanged : goal.returns-in-Unchanged
returns-in-Unchanged c = met_by (sought_of c.args.self) _ _ _ _ _ c.if-self-reaches.false (sym c.in-Unchanged.is ∙ c.cut_by.ensures) refl
