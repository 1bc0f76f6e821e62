use Rattle.std.proofs.Common.{ap, arith, sym, ◌∙◌}
use Rattle.pages.specs.Summary.{in_use}
use Rattle.pages.specs.ViewLaws.{used_entry}
use Rattle.recording.specs.ChooseSteps.{best_first, best_more, best_all}
use Rattle.recording.specs.declared.choose.Choice.{Choice}
use Rattle.recording.proofs.choose.choose_at.Goals as goal

pub loop-i-init : goal.loop-i-init
loop-i-init c =
    record {
      none = λ z. ap (λ (x : Choice). x.at) c.of-best.ensures;
      some = λ l. best_first _ (in_use c.args.page.now) _ _ (c.entry.ensures ∙ sym (used_entry c.args.page.now 0 (omega arith))) c.of-best.ensures;
    }

pub loop-i-preserved : goal.loop-i-preserved
loop-i-preserved c =
    record {
      none = λ z. absurd (omega arith);
      some = λ l.
          best_more _ (in_use c.args.page.now) c.loop-i.i _ c.loop-i.best _ _
          (c.entry-in-loop-i.ensures ∙ sym (used_entry c.args.page.now c.loop-i.i (omega arith)))
          (omega arith) c.of.ensures c.or_later-best.ensures (c.loop-i.invariant.some l);
    }

pub returns : goal.returns
returns c = best_all _ (in_use c.args.page.now) _ c.loop-i.i c.loop-i.best c.in_use-i-end.ensures.1 (omega arith) (omega arith) c.loop-i.invariant.none c.loop-i.invariant.some
