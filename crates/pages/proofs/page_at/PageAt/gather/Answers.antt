use Rattle.std.proofs.Common.{ℕ, ◌∙◌, ◌-◌, ap, sym, arith, min}
use Rattle.pages.specs.GatherLaws.{gathered_start, gathered_more, gathered_page}
use Rattle.pages.specs.Summary.{in_use}
use Rattle.pages.specs.ViewLaws.{used_entry}
use Rattle.pages.proofs.page_at.PageAt.gather.Goals as goal

pub loop-i-init : goal.loop-i-init
loop-i-init c =
    gathered_start (in_use c.args.self.now) _ _ _ _ _ c.entry-last.result (omega arith)
    (used_entry c.args.self.now (c.args.n - 1) (omega arith) ∙ sym c.entry-last.ensures) c.weak_gust-weakest.ensures (c.from.ensures ∙ c.gust.ensures) c.union_size.ensures

pub loop-i-preserved : goal.loop-i-preserved
loop-i-preserved c =
    gathered_more (in_use c.args.self.now) c.level-level.result c.loop-i.i _ _ _ _ _ c.loop-i.invariant (omega arith) _ _ _ _ _ _ _ c.entry-entry.result
    (used_entry c.args.self.now (c.loop-i.i - 1) (omega arith) ∙ sym c.entry-entry.ensures)
    (c.min-weakest.ensures ∙ ap (λ (w : ℕ). min w c.loop-i.weakest) c.weak_gust.ensures)
    (c.from-in-loop-i.ensures ∙ c.gust-in-loop-i.ensures) c.or_before-strongest.ensures.place c.or_before-strongest.ensures.key
    c.union_size-in-loop-i.ensures c.or_before-largest.ensures.place c.or_before-largest.ensures.key

pub returns : goal.returns
returns c =
    gathered_page c.args.self.now c.args.child _ c.loop-i.i _ _ _ _ _ _ c.level-level.ensures (omega arith) c.covering-place.ensures c.loop-i.invariant
    c.entry-first.result c.entry.result c.entry-first.ensures c.entry.ensures _ _ _ c.gust-2.ensures c.record_box.ensures c.union_box.ensures
