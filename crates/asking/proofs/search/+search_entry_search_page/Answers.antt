use Rattle.std.proofs.Common.{arith, rules, ap, ◌∙◌, ◌+◌, ◌-◌, ◌≡◌}
use Rattle.pages.specs.Layout.{pages_of}
use Rattle.asking.specs.Asking.{found}
use Rattle.asking.specs.Seen.{searched_in}
use Rattle.asking.specs.Turns.{entry_pass, entry_raise, entry_refused, entry_opened, in_use_next, in_use_none, order_turn, order_end, order_fails, leaf_page, index_page}
use Rattle.asking.specs.declared.search.Step.TheVariants.{Open}
use Rattle.asking.proofs.search.+search_entry_search_page.Goals as goal

pub search_entry-returns-in_err-child-in-Open-clause-comes : goal.search_entry-returns-in_err-child-in-Open-clause-comes
search_entry-returns-in_err-child-in-Open-clause-comes t c =
    rw c.from_residual.ensures (entry_refused _ _ c.args.entry.now _ _ _ _ (ap Open c.from-in-Open.ensures ∙ c.in-Open.ensures) c.in_err-child-in-Open.ensures.finds)

pub search_entry-returns-in-Pass-clause-comes : goal.search_entry-returns-in-Pass-clause-comes
search_entry-returns-in-Pass-clause-comes t c = entry_pass _ _ c.args.entry.now _ _ c.in-Pass.ensures

pub search_entry-returns-in-Raise-clause-comes : goal.search_entry-returns-in-Raise-clause-comes
search_entry-returns-in-Raise-clause-comes t c = ap (λ n. found (n + 1) c.args.opened.now) c.from.ensures ∙ entry_raise _ _ c.args.entry.now _ _ _ c.in-Raise.ensures

pub search_entry-returns-in_ok-child-in-Open-clause-comes : goal.search_entry-returns-in_ok-child-in-Open-clause-comes
search_entry-returns-in_ok-child-in-Open-clause-comes t c =
    let e : c.open.new.opened ≡ c.args.opened.now + 1 = search rules in
    c.search_page.ensures.comes
    ∙ ap (searched_in (pages_of c.args.t.now) c.args.q.now (c.args.level - 1 - 1) c.in_ok-child-in-Open.child c.args.best) e
    ∙ entry_opened _ _ c.args.entry.now _ _ _ _ (ap Open c.from-in-Open.ensures ∙ c.in-Open.ensures) c.in_ok-child-in-Open.child c.in_ok-child-in-Open.ensures.finds

pub search_page-returns-then-level-eq1-clause-comes : goal.search_page-returns-then-level-eq1-clause-comes
search_page-returns-then-level-eq1-clause-comes t c = ap (λ n. found n c.args.opened.now) c.search_leaf.ensures.comes ∙ leaf_page _ _ _ c.args.page.now _ _ c.if-level-eq1.true

pub search_page-loop-i-init : goal.search_page-loop-i-init
search_page-loop-i-init t c = record { index = omega arith; low = c.requires.2; rest = index_page _ _ _ c.args.page.now _ _ (omega arith) }

pub search_page-returns-in_err-best-clause-comes : goal.search_page-returns-in_err-best-clause-comes
search_page-returns-in_err-best-clause-comes t c =
    let next = in_use_next c.args.page.now c.loop-i.i c.entry.result (omega (arith, c.in_use-i-end.ensures.1, c.loop-i-test.true)) c.entry.ensures in
    rw c.from_residual.ensures (order_fails _ _ _ _ c.entry.result _ _ next c.loop-i.invariant.rest c.in_err-best.ensures.comes)

pub search_page-loop-i-preserved : goal.search_page-loop-i-preserved
search_page-loop-i-preserved t c =
    let next = in_use_next c.args.page.now c.loop-i.i c.entry.result (omega (arith, c.in_use-i-end.ensures.1, c.loop-i-test.true)) c.entry.ensures in
    record { index = c.loop-i.invariant.index; low = c.in_ok-best.ensures.low; rest = order_turn _ _ _ c.entry.result _ _ _ next c.loop-i.invariant.rest c.in_ok-best.ensures.comes }

pub search_page-returns-clause-comes : goal.search_page-returns-clause-comes
search_page-returns-clause-comes t c =
    let none = in_use_none c.args.page.now c.loop-i.i (omega (arith, c.in_use-i-end.ensures.1, c.loop-i-test.false)) in
    order_end _ _ _ _ none c.loop-i.invariant.rest
