use Rattle.std.proofs.Common.{rules}
use Rattle.recording.specs.RootSteps.{above_at_most}
use Rattle.recording.proofs.root.above.Goals as goal

pub returns : goal.returns
returns c = search (rules, above_at_most)
