use mathlib.Core.Path.{◌≡◌}
use Prim.Native.Nat.{◌-◌}
use Rattle.split.specs.Split.{places, pairs, most_wasteful, seeds}
use Rattle.split.specs.Working.{pair_of, Weighed}
use Rattle.split.proofs.seeds.Seeds.worst.Given as goal

abbrev pub invariant-loop-first : goal.invariant-loop-first
invariant-loop-first l = (most_wasteful l.boxes (pair_of l.worst) (pairs (places l.first (9 - l.first))) ≡ seeds l.boxes) × Weighed l.boxes l.worst
