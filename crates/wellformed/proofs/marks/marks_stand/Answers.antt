use Rattle.std.proofs.Common.{rules, tests, ℕ, ◌∙◌, ◌&&◌, true, arith, get_or, eqb, refl}
use Rattle.std.specs.List.{range_with_len}
use Rattle.std.proofs.lemmas.Iterator.{YieldsList-from_range}
use Rattle.std.proofs.lemmas.Iterator.Consumers.{fold_from_yields_List}
use Rattle.pages.specs.Layout.{pages_in, pages_of}
use Rattle.pages.specs.WordLaws.{every_carried}
use Rattle.wellformed.specs.Flat.{named_once}
use Rattle.wellformed.specs.MarkLaws.{due_mark, due_named}
use Rattle.wellformed.proofs.Tested.{every_range}
use Rattle.wellformed.proofs.marks.marks_stand.Goals as goal

pub returns : goal.returns
returns c =
    let f = λ (p : ℕ). eqb (get_or c.args.marks.now p 0) (due_mark c.args.t.now c.args.s p) in
    let n = pages_in c.args.t.now in
    fold_from_yields_List _ (λ b p. b && f p) true _ c.fold.ensures.ran (YieldsList-from_range 0 n n refl (omega arith)) (λ a x b q. search (rules, tests))
    ∙ every_carried f true (range_with_len 0 n)
    ∙ every_range f (named_once (pages_of c.args.t.now) c.args.s) n (λ p h. due_named c.args.t.now c.args.s p c.args.marks.now h c.requires.1)
