use mathlib.Core.Path.{◌≡◌}
use Prim.Native.Nat.{◌+◌, ◌-◌}
use Rattle.split.specs.Split.{places, pairs_with, most_wasteful}
use Rattle.split.specs.Working.{pair_of, Weighed}
use Rattle.split.proofs.seeds.Seeds.or_worse_with.Given as goal

abbrev pub invariant-loop-second : goal.invariant-loop-second
invariant-loop-second l =
    (most_wasteful l.boxes (pair_of l.worst) (pairs_with l.first (places l.second (9 - l.second))) ≡ most_wasteful l.boxes (pair_of l.initial.worst) (pairs_with l.first (places (l.first + 1) (9 - (l.first + 1)))))
    × Weighed l.boxes l.worst
