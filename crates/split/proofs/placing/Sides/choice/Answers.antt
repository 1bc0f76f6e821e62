use mathlib.Core.List.{List}
use mathlib.Core.Path.{ap, ◌∙◌}
use Prim.Native.Nat.{ℕ}
use lib.ListN.{get_or}
use Rattle.split.specs.Split.{Groups, box_at}
use Rattle.split.specs.Working.{choice_of}
use Rattle.split.specs.WorkLaws.{choice_made}
use Rattle.split.proofs.placing.Sides.choice.Goals as goal

pub returns : goal.returns
returns c =
    let bs = c.args.boxes.now in
    let at = c.args.at in
    let s : Groups = record { first = c.self.inside.first; second = c.self.inside.second; unplaced = c.self.inside.left } in
    choice_made s (box_at bs (get_or c.as_slice.result.now at 0)) at _ _ _ c.growth-first.ensures c.growth-second.ensures c.abs_diff.ensures
    ∙ ap (λ (l : List ℕ). choice_of s (box_at bs (get_or l at 0)) at) c.as_slice.ensures.same
    ∙ ap (λ (s : Groups). choice_of s (box_at bs (get_or s.unplaced at 0)) at) c.self.view_is
