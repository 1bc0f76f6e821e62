use mathlib.Core.Path.{sym, ap, ◌∙◌}
use lib.ListN.{length}
use native.Mathlib.Omega.{arith}
use Rattle.split.specs.Split.{Groups}
use Rattle.split.specs.WorkLaws.{all_placed}
use Rattle.split.proofs.placing.Sides.place_all.Goals as goal

pub returns : goal.returns
returns c =
    let n = ap (λ (s : Groups). length s.unplaced) c.self.view_is in
    sym (all_placed c.args.boxes.now c.loop-self.self (omega arith)) ∙ c.loop-self.invariant
