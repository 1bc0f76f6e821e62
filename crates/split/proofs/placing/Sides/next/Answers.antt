use mathlib.Core.Path.{ap, sym, ◌∙◌}
use lib.ListN.{length}
use native.Mathlib.Omega.{arith}
use Rattle.split.specs.Split.{Groups}
use Rattle.split.specs.WorkLaws.{best_of, best_first, best_more, best_all}
use Rattle.split.proofs.placing.Sides.next.Goals as goal

pub loop-at-init : goal.loop-at-init
loop-at-init c = c.choice-best.ensures ∙ sym (best_first c.args.boxes.now c.args.self.now)

pub loop-at-preserved : goal.loop-at-preserved
loop-at-preserved c = best_more c.args.boxes.now c.args.self.now c.loop-at.best _ _ c.loop-at.at (omega arith) c.loop-at.invariant c.choice.ensures c.or_later-best.ensures

pub returns : goal.returns
returns c =
    let n = ap (λ (s : Groups). length s.unplaced) c.self.view_is in
    c.loop-at.invariant ∙ ap (best_of c.args.boxes.now c.args.self.now) (omega arith) ∙ best_all c.args.boxes.now c.args.self.now
