use Prim.Native.Nat.{◌≤◌, ◌*◌, ◌-◌, max}
use mathlib.Core.Path.{◌≡◌}
use Rattle.ground.specs.Dates.{days_before_month}
use Rattle.ground.proofs.dates.days_before_month.Given as goal

abbrev pub invariant-loop-m : goal.invariant-loop-m
invariant-loop-m l = record { in_range : l.days ≤ 31 * l.m; within : l.m ≤ max 1 l.month; so_far : l.days ≡ days_before_month l.year l.m }
