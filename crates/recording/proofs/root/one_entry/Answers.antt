use mathlib.Core.Bool.{◌&&◌}
use mathlib.Core.Path.{ap₂}
use Rattle.recording.specs.TableSteps.{one_used}
use lib.Dec.{leb}
use Rattle.recording.proofs.root.one_entry.Goals as goal

pub returns : goal.returns
returns c = ap₂ (λ l k. leb 2 l && k) c.level_of.ensures (one_used _ c.args.root c.used_at.result (rw c.from.ensures at c.used_at.ensures))
