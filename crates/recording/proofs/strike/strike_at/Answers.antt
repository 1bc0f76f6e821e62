use Rattle.recording.specs.WalkSteps.{none_seen}
use Rattle.recording.proofs.strike.strike_at.Goals as goal

pub returns : goal.returns
returns c = search none_seen
