use Rattle.std.proofs.Common.{rules}
use Rattle.recording.specs.TableSteps.{default_page}
use Rattle.recording.proofs.table.blank_page.Goals as goal

pub returns : goal.returns
returns c = default_page c.default.result _ (λ e h. search rules) c.default.ensures.0 c.default.ensures.1.0 c.default.ensures.1.1
