use Rattle.std.proofs.Common.{◌∙◌}
use Rattle.strip.specs.WalkingLaws.{passed_more, passed_all}
use Rattle.strip.proofs.checking.part_days.Goals as goal

pub loop-w-preserved : goal.loop-w-preserved
loop-w-preserved c =
    passed_more _ _ _ _ _ _ _ _ c.loop-w.invariant c.loop-w-test.true (c.from-last.ensures ∙ c.from-segment.ensures.0) (c.from-value.ensures ∙ c.from-segment.ensures.1) c.may_follow-good.ensures

pub returns : goal.returns
returns c = passed_all _ _ _ _ _ _ c.loop-w.invariant c.loop-w.auto.w-index-end c.loop-w-test.false c.from.ensures
