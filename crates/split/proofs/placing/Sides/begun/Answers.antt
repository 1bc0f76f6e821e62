use mathlib.Core.Path.{ap}
use lib.ListN.{length}
use native.Mathlib.Omega.{arith}
use Rattle.split.specs.Split.{Group}
use Rattle.split.specs.SplitLaws.{length_places}
use Rattle.split.specs.Working.{pair_of}
use Rattle.split.specs.WorkLaws.{began, one_out}
use Rattle.split.proofs.placing.Sides.begun.Goals as goal

pub remove-requires : goal.remove-requires
remove-requires c = omega (arith, ap length c.all-left.ensures, length_places 0 9)

pub remove-requires-2 : goal.remove-requires-2
remove-requires-2 c =
    let n = ap length c.all-left.ensures in
    omega (arith, length_places 0 9, one_out c.all-left.result _ c.args.pair.second (omega (arith, length_places 0 9)) c.remove.ensures.0)

pub invariant_of-result : goal.invariant_of-result
invariant_of-result c =
    let n = ap length c.all-left.ensures in
    let m = one_out c.all-left.result _ c.args.pair.second (omega (arith, length_places 0 9)) c.remove.ensures.0 in
    omega (
      arith,
      length_places 0 9,
      one_out c.remove.new.self _ c.args.pair.first (omega (arith, length_places 0 9)) c.remove-2.ensures.0,
      ap (λ (g : Group). length g.members) c.begun.ensures,
      ap (λ (g : Group). length g.members) c.begun-2.ensures,
    )

pub returns : goal.returns
returns c = began c.args.boxes.now (pair_of c.args.pair) _ _ _ _ _ c.told-boxes c.requires c.begun.ensures c.begun-2.ensures c.all-left.ensures c.remove.ensures.0 c.remove-2.ensures.0
