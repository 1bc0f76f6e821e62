use mathlib.Core.Path.{ap, sym, ◌∙◌}
use lib.ListN.{length}
use Rattle.std.proofs.Math.Bool.{true, false}
use native.Mathlib.Omega.{arith}
use Rattle.split.specs.Split.{Group, Groups}
use Rattle.split.specs.WorkLaws.{placed, chosen_within, one_in, one_out}
use Rattle.split.proofs.placing.Sides.place.Goals as goal

pub remove-i-requires : goal.remove-i-requires
remove-i-requires c = omega (arith, chosen_within c.args.boxes.now c.args.self.now c.next-c.result c.next-c.ensures c.requires, ap (λ (s : Groups). length s.unplaced) c.self.view_is)

pub invariant_of-self : goal.invariant_of-self
invariant_of-self c =
    let n = chosen_within c.args.boxes.now c.args.self.now c.next-c.result c.next-c.ensures c.requires in
    let m = ap (λ (s : Groups). length s.unplaced) c.self.view_is in
    omega (arith, c.self.invariant, one_out c.self.inside.left _ c.next-c.result.at (omega arith) c.remove-i.ensures.0, one_in c.args.boxes.now _ _ _ c.take.ensures)

pub invariant_of-self-else-second : goal.invariant_of-self-else-second
invariant_of-self-else-second c =
    let n = chosen_within c.args.boxes.now c.args.self.now c.next-c.result c.next-c.ensures c.requires in
    let m = ap (λ (s : Groups). length s.unplaced) c.self.view_is in
    omega (arith, c.self.invariant, one_out c.self.inside.left _ c.next-c.result.at (omega arith) c.remove-i.ensures.0, one_in c.args.boxes.now _ _ _ c.take-else-second.ensures)

pub returns-then-second : goal.returns-then-second
returns-then-second c =
    let bs = c.args.boxes.now in
    let s : Groups = record { first = c.self.inside.first; second = c.self.inside.second; unplaced = c.self.inside.left } in
    ap (λ (g : Group). record s { second = g; unplaced = c.remove-i.new.self }) c.take.ensures
    ∙ placed bs s c.args.self.now c.next-c.result true _ _ c.self.view_is c.next-c.ensures (sym c.if-second.true ∙ c.second_takes-second.ensures) c.remove-i.ensures.1 c.remove-i.ensures.0

pub returns-else-second : goal.returns-else-second
returns-else-second c =
    let bs = c.args.boxes.now in
    let s : Groups = record { first = c.self.inside.first; second = c.self.inside.second; unplaced = c.self.inside.left } in
    ap (λ (g : Group). record s { first = g; unplaced = c.remove-i.new.self }) c.take-else-second.ensures
    ∙ placed bs s c.args.self.now c.next-c.result false _ _ c.self.view_is c.next-c.ensures (sym c.if-second.false ∙ c.second_takes-second.ensures) c.remove-i.ensures.1 c.remove-i.ensures.0
