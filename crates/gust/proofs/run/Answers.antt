use mathlib.Core.Path.{refl}
use lib.Dec.{lit≤}
use Rattle.gust.proofs.run.Goals as goal

pub serve-ending-requires : goal.serve-ending-requires
serve-ending-requires c = record { fits = refl; some = lit≤ tt; room = lit≤ tt }
