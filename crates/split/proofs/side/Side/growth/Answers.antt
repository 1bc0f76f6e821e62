use mathlib.Core.Path.{ap, ap₂, ◌∙◌}
use Prim.Native.Nat.{ℕ, ◌-◌}
use native.Mathlib.Omega.{arith}
use Rattle.ground.specs.Boxes.{join}
use Rattle.ground.specs.BoxLaws.{size_grows, join_covers_first}
use Rattle.split.specs.Split.{Group, growth}
use Rattle.split.proofs.side.Side.growth.Goals as goal

pub overflow_sub-result : goal.overflow_sub-result
overflow_sub-result c =
    let cover = c.self.inside.cover in
    omega (arith, c.cover_size.ensures.0, c.self.invariant, size_grows (join cover c.args.b) cover (join_covers_first cover c.args.b))

pub returns : goal.returns
unfolding growth
returns c = ap₂ (λ (m n : ℕ). m - n) c.cover_size.ensures.0 c.self.invariant ∙ ap (λ (g : Group). growth g c.args.b) c.self.view_is
