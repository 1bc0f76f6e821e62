use Rattle.std.proofs.Common.{◌∙◌, arith, ap, ℕ, length}
use Rattle.std.proofs.lemmas.List.{length-replicate}
use Rattle.pages.specs.Facts.{fitting}
use Rattle.pages.specs.Layout.{most_pages}
use Rattle.pages.specs.declared.Page.{Page}
use Rattle.wellformed.specs.WellFormed.{children, leaf_entries}
use Rattle.wellformed.specs.MarkLaws.{marked, below_none, below_turn, counted_none, counted_more, counted_all}
use Rattle.wellformed.specs.VerdictLaws.{held_none, held_more}
use Rattle.wellformed.proofs.verdict.pass_over.Goals as goal

pub loop-p-init : goal.loop-p-init
loop-p-init c = record {
  all_pass = below_none _;
  all_held = held_none _;
  few = omega arith;
  counted = counted_none _ most_pages _ c.requires.1;
}

pub loop-p-preserved : goal.loop-p-preserved
loop-p-preserved c = record {
  all_pass = below_turn _ c.loop-p.stands _ _ c.loop-p.invariant.all_pass c.page_passes-stands.ensures;
  all_held = held_more _ c.loop-p.p _ _ c.loop-p-test.true c.loop-p.invariant.all_held (c.held_in-held.ensures.1 ∙ ap (λ (x : Page). length (leaf_entries x)) c.of-page.ensures);
  few = omega arith;
  counted = counted_more _ c.loop-p.p _ _ c.loop-p-test.true c.loop-p.invariant.counted (c.mark_children.ensures ∙ ap (λ (x : Page). marked c.loop-p.marks (children x)) c.of-page.ensures);
}

pub returns-clause-counted : goal.returns-clause-counted
returns-clause-counted c = counted_all c.args.t.now c.loop-p.marks c.loop-p.p (omega arith) (omega (arith, fitting c.args.t.now c.requires.0, ap length c.requires.1, length-replicate {A = ℕ} most_pages 0)) c.loop-p.invariant.counted
