use Rattle.wellformed.specs.WellFormed.{leaf_entry_stands}
use Rattle.wellformed.specs.PassLaws.{leaf_turn, every_turn, every_end}
use Rattle.pages.specs.Words.{every, all_zero}
use Rattle.pages.specs.Summary.{in_use}
use Rattle.pages.specs.Laid.{words_laid, nothing_laid_lem, rest_laid}
use Rattle.pages.specs.ViewLaws.{used_entry}
use Rattle.std.proofs.Common.{drop, true, ◌&&◌, ◌+◌, arith, sym, ap, ◌∙◌}
use Rattle.wellformed.proofs.entries.leaf_entries_stand.Goals as goal

pub loop-i-init : goal.loop-i-init
loop-i-init c = ap (λ b. true && b && every leaf_entry_stands (in_use c.args.page.now)) (nothing_laid_lem _ c.nothing-rest.ensures)

pub loop-i-preserved : goal.loop-i-preserved
loop-i-preserved c =
    let es = in_use c.args.page.now in
    let e = c.entry-entry.result in
    let before = all_zero (words_laid c.loop-i.rest) in
    ap (λ b. b && every leaf_entry_stands (drop (c.loop-i.i + 1) es)) (leaf_turn e c.loop-i.stands before c.record_stands-stands.result (all_zero (words_laid c.over_rest-rest.result)) c.record_stands-stands.ensures (rest_laid _ _ e c.over_rest-rest.ensures))
    ∙ every_turn leaf_entry_stands es (c.loop-i.stands && before) _ _ c.loop-i.i (omega arith)
    (ap leaf_entry_stands (sym (used_entry c.args.page.now c.loop-i.i (omega arith) ∙ sym c.entry-entry.ensures))) c.loop-i.invariant

pub returns : goal.returns
returns c =
    ap (λ b. c.loop-i.stands && b) c.is_zero.ensures
    ∙ every_end leaf_entry_stands (in_use c.args.page.now) (c.loop-i.stands && all_zero (words_laid c.loop-i.rest)) _ c.loop-i.i (omega arith) c.loop-i.invariant
