use native.Mathlib.Omega.{arith}
use Rattle.ground.specs.CutLaws.{covers_low, covers_high, leaves_past, leaves_before, leaves_all}
use Rattle.ground.proofs.boxes.Range.leaves.Goals as goal

pub overflow_add-result : goal.overflow_add-result
overflow_add-result c = record { fits = omega (arith, covers_low c.args.self c.args.b _ c.holds.ensures c.if-holds-self.true) }

pub returns-then-holds-self : goal.returns-then-holds-self
returns-then-holds-self c = leaves_past _ _ _ c.holds.ensures c.if-holds-self.true

pub overflow_sub-result : goal.overflow_sub-result
overflow_sub-result c = omega (arith, covers_high c.args.self c.args.b _ c.holds-2.ensures c.if-holds-b.true)

pub returns-then-holds-b : goal.returns-then-holds-b
returns-then-holds-b c = leaves_before _ _ _ c.holds-2.ensures c.if-holds-b.true

pub returns : goal.returns
returns c = leaves_all _ _ _ _ c.holds.ensures c.if-holds-self.false c.holds-2.ensures c.if-holds-b.false
