use Rattle.strip.specs.WalkingLaws.{Passed}
use Rattle.strip.proofs.checking.part_days.Given as goal

abbrev pub invariant-loop-w : goal.invariant-loop-w
invariant-loop-w l = Passed l.words l.good l.first l.before l.w-index
