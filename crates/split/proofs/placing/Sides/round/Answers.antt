use mathlib.Core.Path.{◌≡◌, ap, sym, ◌∙◌}
use Rattle.split.specs.Split.{Groups, needs_all, all_to_first, all_to_second}
use Rattle.split.specs.WorkLaws.{onward_first, onward_second, onward_one}
use Rattle.split.proofs.placing.Sides.round.Goals as goal

pub returns-then-needs_all : goal.returns-then-needs_all
returns-then-needs_all c =
    let s : Groups = record { first = c.self.inside.first; second = c.self.inside.second; unplaced = c.self.inside.left } in
    let made : ◌≡◌ {A = Groups} (record { first = c.take_all.new.self; second = s.second; unplaced = c.take_all.new.left }) (all_to_first s) =
    λ x. record { first = c.take_all.ensures.0 x; second = s.second; unplaced = c.take_all.ensures.1 x } in
    onward_first c.args.boxes.now c.args.self.now _ c.requires (sym c.if-needs_all.true ∙ c.needs_all.ensures ∙ ap (λ (t : Groups). needs_all t.first t.unplaced) c.self.view_is) (made ∙ ap all_to_first c.self.view_is)

pub returns-then-needs_all-2 : goal.returns-then-needs_all-2
returns-then-needs_all-2 c =
    let s : Groups = record { first = c.self.inside.first; second = c.self.inside.second; unplaced = c.self.inside.left } in
    let took = c.take_all-then-needs_all-2 in
    let made : ◌≡◌ {A = Groups} (record { first = s.first; second = took.new.self; unplaced = took.new.left }) (all_to_second s) =
    λ x. record { first = s.first; second = took.ensures.0 x; unplaced = took.ensures.1 x } in
    onward_second c.args.boxes.now c.args.self.now _ c.requires (sym c.if-needs_all.false ∙ c.needs_all.ensures ∙ ap (λ (t : Groups). needs_all t.first t.unplaced) c.self.view_is)
    (sym c.if-needs_all-2.true ∙ c.needs_all-else-needs_all.ensures ∙ ap (λ (t : Groups). needs_all t.second t.unplaced) c.self.view_is) (made ∙ ap all_to_second c.self.view_is)

pub returns-else-needs_all-2 : goal.returns-else-needs_all-2
returns-else-needs_all-2 c =
    onward_one c.args.boxes.now c.args.self.now _ c.requires (sym c.if-needs_all.false ∙ c.needs_all.ensures ∙ ap (λ (t : Groups). needs_all t.first t.unplaced) c.self.view_is)
    (sym c.if-needs_all-2.false ∙ c.needs_all-else-needs_all.ensures ∙ ap (λ (t : Groups). needs_all t.second t.unplaced) c.self.view_is) c.place.ensures
