use Rattle.std.proofs.Common.{rules, arith}
use Rattle.recording.specs.StrikeSteps.{one_record, freed_none, freed_more, freed_all, children_used, leaf_freed}
use Rattle.pages.specs.Layout.{pages_of}
use Rattle.wellformed.specs.WellFormed.{page}
use Rattle.recording.proofs.strike.+free_under.Goals as goal

pub returns-then-n-eq0 : goal.returns-then-n-eq0
returns-then-n-eq0 t c = search one_record

pub returns-then-n-eq1 : goal.returns-then-n-eq1
returns-then-n-eq1 t c = leaf_freed _ _ _ c.from-p.result _ _ (omega arith) c.from-p.ensures c.used_at-used.ensures.is (omega arith) c.release.ensures

pub loop-c-init : goal.loop-c-init
loop-c-init t c = search freed_none

pub loop-c-preserved : goal.loop-c-preserved
loop-c-preserved t c = search (rules, freed_more)

pub returns : goal.returns
returns t c =
    freed_all _ _ c.loop-c.c-index _ c.from-p.result _ _ _ _ c.if-n-eq0.false c.from-p.ensures (children_used (page (pages_of c.args.t.now) c.from-p.result) _ _ c.used_at-used.ensures.is c.children_of-children.ensures) c.loop-c-test.false c.loop-c.invariant c.release-2.ensures
