use Rattle.strip.specs.Walking.{Walked}
use Rattle.strip.proofs.raising.Raise.make.Given as goal

abbrev pub invariant-loop-at : goal.invariant-loop-at
invariant-loop-at l = Walked l.self l.room l.at

abbrev pub decreases-loop-at : goal.decreases-loop-at
decreases-loop-at l = l.at.days
