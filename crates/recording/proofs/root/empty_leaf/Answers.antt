use Rattle.recording.specs.RootSteps.{leaf_made}
use Rattle.recording.proofs.root.empty_leaf.Goals as goal

pub returns : goal.returns
returns c = search leaf_made
