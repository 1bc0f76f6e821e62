use mathlib.Core.Path.{◌≡◌}
use lib.ListN.{length}
use Rattle.split.specs.Split.{place_all}
use Rattle.split.proofs.placing.Sides.place_all.Given as goal

abbrev pub invariant-loop-self : goal.invariant-loop-self
invariant-loop-self l = place_all l.boxes (length l.self.unplaced) l.self ≡ place_all l.boxes (length l.initial.self.unplaced) l.initial.self

abbrev pub decreases-loop-self : goal.decreases-loop-self
decreases-loop-self l = length l.self.unplaced
