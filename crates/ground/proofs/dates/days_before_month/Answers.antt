use Prim.Native.Nat.{◌+◌}
use mathlib.Core.Path.{◌∙◌, ap, ap₂, sym}
use native.Mathlib.Omega.{arith}
use borrow.Author.Rules.{rules}
use Rattle.ground.specs.DateLaws.{months_start, months_next, months_end, month_most}
use Rattle.ground.proofs.dates.days_before_month.Goals as goal

pub loop-m-init : goal.loop-m-init
loop-m-init c = record { in_range = search rules; within = search rules; so_far = months_start _ }

pub loop-m-preserved : goal.loop-m-preserved
loop-m-preserved c = record {
  in_range = omega (arith, c.loop-m.invariant.in_range, c.length_of_month.ensures, month_most c.args.year c.loop-m.m);
  within = omega arith;
  so_far = omega (arith, c.loop-m.invariant.so_far, c.length_of_month.ensures, months_next c.args.year c.loop-m.m c.loop-m.auto.m);
}

pub returns : goal.returns
returns c = c.loop-m.invariant.so_far ∙ months_end _ _ _ c.loop-m-test.false c.loop-m.invariant.within
