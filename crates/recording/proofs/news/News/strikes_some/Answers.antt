use Rattle.std.proofs.Common.{arith, sym, ◌∙◌}
use Rattle.pages.specs.Summary.{in_use}
use Rattle.pages.specs.ViewLaws.{used_entry}
use Rattle.recording.specs.LookSteps.{seen_none, seen_more}
use Rattle.recording.proofs.news.News.strikes_some.Goals as goal

pub loop-i-init : goal.loop-i-init
loop-i-init c = search seen_none

pub loop-i-preserved : goal.loop-i-preserved
loop-i-preserved c =
    seen_more _ _ (in_use c.args.page.now) c.loop-i.i c.entry.result c.loop-i.some c.strikes-some.result (omega arith)
    (c.entry.ensures ∙ sym (used_entry c.args.page.now c.loop-i.i (omega arith))) c.strikes-some.ensures c.loop-i.invariant
