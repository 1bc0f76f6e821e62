use mathlib.Core.Path.{◌≡◌}
use Rattle.split.specs.WorkLaws.{best_of}
use Rattle.split.proofs.placing.Sides.next.Given as goal

abbrev pub invariant-loop-at : goal.invariant-loop-at
invariant-loop-at l = l.best ≡ best_of l.boxes l.self l.at
