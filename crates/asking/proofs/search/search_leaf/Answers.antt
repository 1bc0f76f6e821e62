use Rattle.std.proofs.Common.{rules, ℕ, ◌≤◌, ◌∙◌, ap, sym, arith, get_or}
use Rattle.std.proofs.Math.Path.{refl}
use Rattle.std.proofs.iter.Yields.{nat_range_steps}
use Rattle.std.specs.declared.ops.Range.{Range}
use Rattle.std.specs.List.{range_with_len}
use Rattle.std.proofs.lemmas.Fn.{fold_over}
use Rattle.std.proofs.lemmas.Iterator.{YieldsList-from_range}
use Rattle.std.proofs.lemmas.Iterator.Consumers.{fold_from_yields_List}
use Rattle.pages.specs.Layout.{zero_entry}
use Rattle.pages.specs.declared.Entry.{Entry}
use Rattle.asking.specs.Asking.{raised}
use Rattle.asking.specs.Seen.{most_best, raised_by}
use Rattle.asking.specs.Turns.{in_use_all, raised_at}
use Rattle.asking.proofs.search.search_leaf.Goals as goal

pub returns-clause-comes : goal.returns-clause-comes
returns-clause-comes c =
    let x = c.args.page.now in
    let k = c.args.q.now in
    let n = c.in_use.result in
    let e : ℕ → Entry = λ i. get_or x.entries i zero_entry in
    fold_from_yields_List _ (λ most i. raised k (e i) most) c.args.best _ c.fold.ensures.ran (YieldsList-from_range 0 n n refl (omega arith)) (λ a i b f h. search rules)
    ∙ raised_at k e (range_with_len 0 n) c.args.best
    ∙ ap (λ es. raised_by k es c.args.best) (sym (in_use_all x n c.in_use.ensures.1))

pub returns-clause-low : goal.returns-clause-low
returns-clause-low c =
    let n = c.in_use.result in
    let s : Range ℕ = record { start = 0; end = n } in
    fold_over nat_range_steps _ _ (λ ys a. c.args.best ≤ most_best → a ≤ most_best) _
    (λ ys a i b f j h. (λ l. search rules, search rules))
    s _ _ _ (YieldsList-from_range {s = s} 0 n n refl (omega arith)).runs (λ l. l) c.fold.ensures.ran
