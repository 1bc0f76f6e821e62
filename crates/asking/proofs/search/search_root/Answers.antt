use Rattle.std.proofs.Common.{rules, ap, ◌∙◌, ◌-◌}
use Rattle.pages.specs.Layout.{pages_of}
use Rattle.asking.specs.Seen.{searched_in}
use Rattle.asking.specs.Turns.{opened_level, root_refused, root_opened}
use Rattle.asking.proofs.search.search_root.Goals as goal

pub returns-in_err-root-clause-comes : goal.returns-in_err-root-clause-comes
returns-in_err-root-clause-comes c = rw c.from_residual.ensures (root_refused _ c.args.s _ _ c.least_root.ensures (rw c.requires.1 at c.in_err-root.ensures.finds))

pub search_page-requires : goal.search_page-requires
search_page-requires c = (c.requires.0, opened_level _ _ _ _ _ _ c.in_ok-root.ensures.finds, search rules)

pub returns-clause-comes : goal.returns-clause-comes
returns-clause-comes c =
    c.search_page.ensures.comes
    ∙ ap (searched_in (pages_of c.args.t.now) c.of-sieve.result (c.args.s.height - 1) c.in_ok-root.root 0) (search rules)
    ∙ ap (λ b. searched_in (pages_of c.args.t.now) b (c.args.s.height - 1) c.in_ok-root.root 0 1) c.of-sieve.ensures
    ∙ root_opened _ c.args.s _ _ c.least_root.ensures _ (rw c.requires.1 at c.in_ok-root.ensures.finds)
