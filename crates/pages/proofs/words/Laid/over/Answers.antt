use Rattle.std.proofs.Common.{◌≡◌, ◌∙◌, ap, length, set, take_all, refl, rules, arith}
use Rattle.pages.specs.Laid.{greater_words, laid_over, laid_more}
use Rattle.pages.proofs.words.Laid.over.Goals as goal

pub loop-i-init : goal.loop-i-init
unfolding greater_words
loop-i-init c = refl

pub loop-i-preserved : goal.loop-i-preserved
loop-i-preserved c =
    let eight : length c.args.self.words ≡ 8 = search rules in
    ap (λ w. set c.loop-i.words c.loop-i.i w) c.max.ensures ∙ laid_more _ c.args.self.words c.args.row.now c.loop-i.i (omega arith) (omega arith) c.loop-i.invariant

pub returns : goal.returns
unfolding laid_over
returns c =
    let e = c.loop-i.invariant ∙ ap (greater_words c.args.self.words) (take_all c.loop-i.i c.args.row.now (omega arith)) in
    λ i. record { words = e i }
