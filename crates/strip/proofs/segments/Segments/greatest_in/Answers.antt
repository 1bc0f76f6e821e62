use Rattle.std.proofs.Common.{refl}
use Rattle.strip.specs.AskLaws.{greatest_until}
use Rattle.strip.proofs.segments.Segments.greatest_in.Goals as goal

pub returns : goal.returns
returns c = greatest_until _ c.args.self.good c.args.days _ _ _ c.requires c.find-first.ensures refl c.greatest_to.ensures
