use Rattle.std.proofs.Common.{rules, tests, ℕ, ◌∙◌, ◌&&◌, true, get_or, arith, refl}
use Rattle.std.specs.List.{range_with_len}
use Rattle.std.proofs.lemmas.Iterator.{YieldsList-from_range}
use Rattle.std.proofs.lemmas.Iterator.Consumers.{fold_from_yields_List}
use Rattle.pages.specs.Layout.{pages_of, zero_entry}
use Rattle.pages.specs.WordLaws.{every_carried}
use Rattle.wellformed.specs.PassLaws.{lower_and_exact}
use Rattle.wellformed.proofs.Tested.{every_used}
use Rattle.wellformed.proofs.entries.index_entries_stand.Goals as goal

pub returns : goal.returns
returns c =
    let x = c.args.page.now in
    let f = lower_and_exact (pages_of c.args.t.now) x.level in
    let n = c.in_use.result in
    fold_from_yields_List _ (λ b i. b && f (get_or x.entries i zero_entry)) true _ c.fold.ensures.ran (YieldsList-from_range 0 n n refl (omega arith)) (λ a i b q. search (rules, tests))
    ∙ every_carried (λ (i : ℕ). f (get_or x.entries i zero_entry)) true (range_with_len 0 n)
    ∙ every_used f x n c.in_use.ensures.1
