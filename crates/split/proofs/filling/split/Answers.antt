use mathlib.Core.Path.{ap, ◌∙◌}
use mathlib.Core.List.{List}
use lib.ListN.{length}
use native.Mathlib.Omega.{arith}
use borrow.Author.Rules.{rules}
use Rattle.pages.specs.WritingLaws.{unmapped}
use Rattle.pages.specs.declared.Entry.{Entry}
use Rattle.split.specs.Split.{Group, Groups, halves, page_from, pages_from, entries_at}
use Rattle.split.specs.WorkLaws.{both_few, both_pages}
use Rattle.split.proofs.filling.split.Goals as goal

pub page-requires : goal.page-requires
page-requires c =
    let few = both_few c.boxes-boxes.result _ _ c.begun-sides.ensures c.place_all.ensures (search (rules, unmapped)) in
    omega (arith, few.first_most_lem, ap (λ (g : Group). length g.members) c.first.view_is, ap (λ (s : Groups). length s.first.members) c.sides.view_is)

pub page-requires-2 : goal.page-requires-2
page-requires-2 c =
    let few = both_few c.boxes-boxes.result _ _ c.begun-sides.ensures c.place_all.ensures (search (rules, unmapped)) in
    omega (arith, few.second_most, ap (λ (g : Group). length g.members) c.second.view_is, ap (λ (s : Groups). length s.second.members) c.sides.view_is)

pub returns : goal.returns
returns c =
    let es = c.of-nine.result.entries in
    let level = c.args.page.level in
    both_pages c.boxes-boxes.result _ _ c.begun-sides.ensures c.place_all.ensures es level _ _ c.boxes-boxes.ensures
    (c.page.ensures ∙ ap (λ (g : Group). page_from level (entries_at es g.members)) c.first.view_is ∙ ap (λ (s : Groups). page_from level (entries_at es s.first.members)) c.sides.view_is)
    (c.page-2.ensures ∙ ap (λ (g : Group). page_from level (entries_at es g.members)) c.second.view_is ∙ ap (λ (s : Groups). page_from level (entries_at es s.second.members)) c.sides.view_is)
    ∙ ap (λ (l : List Entry). pages_from level (halves l)) c.of-nine.ensures
