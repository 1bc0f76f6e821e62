use Rattle.std.proofs.Common.{arith, ap, sym, ◌∙◌}
use Rattle.pages.specs.Summary.{in_use}
use Rattle.pages.specs.ViewLaws.{used_entry}
use Rattle.wellformed.specs.WellFormed.{child_of}
use Rattle.wellformed.specs.MarkLaws.{marked_none, marked_index, marked_turn, marked_end}
use Rattle.wellformed.proofs.marks.mark_children.Goals as goal

pub returns-then-level-lt2 : goal.returns-then-level-lt2
returns-then-level-lt2 c = marked_none c.args.page.now _ _ c.level.ensures c.if-level-lt2.true

pub loop-i-preserved : goal.loop-i-preserved
loop-i-preserved c =
    marked_turn (in_use c.args.page.now) c.loop-i.marks _ _ c.loop-i.i _ (omega arith)
    (c.from.ensures ∙ c.child.ensures ∙ ap child_of (c.entry.ensures ∙ sym (used_entry c.args.page.now c.loop-i.i (omega arith))))
    c.mark_page.ensures c.loop-i.invariant

pub returns : goal.returns
returns c =
    marked_index c.args.page.now c.level.result _ _ c.level.ensures c.if-level-lt2.false (marked_end (in_use c.args.page.now) c.loop-i.marks _ c.loop-i.i (omega arith) c.loop-i.invariant)
