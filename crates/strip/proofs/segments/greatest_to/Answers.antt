use Rattle.std.proofs.Common.{rules, ◌≡◌, refl, ap, sym, ◌∙◌, ◌+◌, max, drop, arith}
use Rattle.strip.specs.AskLaws.{up_to, up_to_is, up_to_more, up_to_last, up_to_none}
use Rattle.strip.proofs.segments.greatest_to.Goals as goal

pub loop-w-init : goal.loop-w-init
loop-w-init c = refl

pub returns-then-day-segment : goal.returns-then-day-segment
returns-then-day-segment c =
    let best : c.max-best.result ≡ max c.loop-w.best c.from-segment.result.value = search rules in
    best ∙ ap (max c.loop-w.best) c.from-segment.ensures.1
    ∙ sym (up_to_last c.args.day c.args.words.now c.loop-w.best c.loop-w.w-index (omega arith) (omega (arith, c.from-segment.ensures.0)))
    ∙ c.loop-w.invariant ∙ up_to_is c.args.day c.args.words.now 0

pub loop-w-preserved : goal.loop-w-preserved
loop-w-preserved c =
    let best : c.max-best.result ≡ max c.loop-w.best c.from-segment.result.value = search rules in
    ap (up_to c.args.day (drop (c.loop-w.w-index + 1) c.args.words.now)) (best ∙ ap (max c.loop-w.best) c.from-segment.ensures.1)
    ∙ sym (up_to_more c.args.day c.args.words.now c.loop-w.best c.loop-w.w-index (omega arith) (omega (arith, c.from-segment.ensures.0)))
    ∙ c.loop-w.invariant

pub returns : goal.returns
returns c = sym (up_to_none c.args.day c.args.words.now c.loop-w.best c.loop-w.w-index (omega arith)) ∙ c.loop-w.invariant ∙ up_to_is c.args.day c.args.words.now 0
