use Rattle.std.proofs.Common.{sym, ◌∙◌}
use Rattle.counter.specs.Feeding.{feeding_rest, feeding_turn}
use Rattle.counter.proofs.feeding.feed.Goals as goal

pub loop-end-preserved : goal.loop-end-preserved
loop-end-preserved c = feeding_turn _ _ _ _ _ _ _ c.loop-end.invariant _ (sym c.first_end.ensures ∙ c.in-Some.is) _ _ _ c.end_line.ensures

pub returns : goal.returns
returns c = rw c.push.ensures (feeding_rest _ _ _ _ _ _ _ c.loop-end.invariant (sym c.first_end.ensures ∙ c.in_default.is))
