use Rattle.std.proofs.Common.{arith}
use Rattle.strip.specs.WalkingLaws.{in_front_lem}
use Rattle.strip.proofs.walking.put_in_front.Goals as goal

pub returns : goal.returns
returns c = in_front_lem _ _ _ _ _ c.requires.0 c.requires.1 (omega arith)
