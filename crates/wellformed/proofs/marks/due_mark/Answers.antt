use Rattle.std.proofs.Common.{◌≡◌, rules, tests, ap, ◌∙◌}
use Rattle.pages.specs.Layout.{level_at}
use Rattle.pages.specs.LayoutLaws.{level_in}
use Rattle.pages.specs.declared.Page.{Page}
use Rattle.wellformed.proofs.marks.due_mark.Goals as goal

pub returns : goal.returns
returns c =
    let l : c.level.result ≡ level_at c.args.t.now c.args.p = c.level.ensures ∙ ap (λ (x : Page). x.level) c.of.ensures ∙ level_in c.args.t.now c.args.p in
    search (rules, tests)
