use Rattle.std.proofs.Common.{◌∙◌, ◌-◌, ap, sym, arith}
use Rattle.ground.specs.Boxes.{join}
use Rattle.ground.specs.declared.boxes.Box.{Box}
use Rattle.pages.specs.Ends.{boxed, boxed_alone, boxed_more}
use Rattle.pages.specs.GatherLaws.{cover_start, cover_more}
use Rattle.pages.specs.Summary.{in_use}
use Rattle.pages.specs.ViewLaws.{used_entry}
use Rattle.pages.proofs.page_at.PageAt.covering.Goals as goal

pub loop-i-init : goal.loop-i-init
loop-i-init c =
    cover_start (in_use c.args.self.now) (c.args.n - 1) _ c.entry.result (omega arith)
    (used_entry c.args.self.now (c.args.n - 1) (omega arith) ∙ sym c.entry.ensures)
    (boxed_alone _ c.of-ends.result c.of-ends.ensures ∙ c.place.ensures)

pub loop-i-preserved : goal.loop-i-preserved
loop-i-preserved c =
    let before = c.loop-i.i - 1 in
    cover_more (in_use c.args.self.now) c.loop-i.i (boxed c.loop-i.ends) _ c.entry-in-loop-i.result (omega arith) (omega arith) c.loop-i.invariant
    (used_entry c.args.self.now before (omega arith) ∙ sym c.entry-in-loop-i.ensures)
    (boxed_more _ c.of.result c.of.ensures _ _ c.least-ends.ensures ∙ ap (λ (b : Box). join b (boxed c.loop-i.ends)) c.place-in-loop-i.ensures)
