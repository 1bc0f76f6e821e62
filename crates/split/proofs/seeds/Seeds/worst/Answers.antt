use mathlib.Core.Path.{ap, sym, ◌∙◌}
use Prim.Native.Nat.{ℕ}
use native.Mathlib.Omega.{arith}
use Rattle.split.specs.Split.{Pair, most_wasteful, pairs, places, seeds}
use Rattle.split.specs.WorkLaws.{first_step, first_done}
use Rattle.split.proofs.seeds.Seeds.worst.Goals as goal

pub loop-first-init : goal.loop-first-init
unfolding seeds
loop-first-init c =
    let bs = c.args.boxes.now in (
      ap (λ (p : Pair). most_wasteful bs p (pairs (places 0 9))) c.weighed-worst.ensures.0 ∙ ap (λ (n : ℕ). most_wasteful bs (record { first = 0; second = 1 }) (pairs (places 0 n))) (sym c.told-boxes),
      c.weighed-worst.ensures.1,
    )

pub loop-first-preserved : goal.loop-first-preserved
loop-first-preserved c = (first_step _ c.loop-first.first _ _ (omega arith) c.or_worse_with-worst.ensures.0 ∙ c.loop-first.invariant.0, c.or_worse_with-worst.ensures.1)

pub returns : goal.returns
returns c = first_done _ c.loop-first.first _ _ (omega arith) c.loop-first.invariant.0
