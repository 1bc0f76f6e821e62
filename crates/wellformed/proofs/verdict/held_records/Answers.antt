use Rattle.std.proofs.Common.{sym, ◌∙◌}
use Rattle.wellformed.specs.VerdictLaws.{no_table, no_root, found_held, found_damaged}
use Rattle.wellformed.proofs.verdict.held_records.Goals as goal

pub returns-then-not-table_fits : goal.returns-then-not-table_fits
returns-then-not-table_fits c = no_table _ c.args.s (sym c.table_fits.ensures ∙ c.if-not-table_fits.true)

pub returns-then-not-root_stands : goal.returns-then-not-root_stands
returns-then-not-root_stands c = no_root _ _ (sym c.root_stands.ensures ∙ c.if-not-root_stands.true)

pub returns-in_err-held : goal.returns-in_err-held
returns-in_err-held c = c.from_residual.ensures ∙ found_damaged _ _ (sym c.table_fits.ensures ∙ c.if-not-table_fits.false) (sym c.root_stands.ensures ∙ c.if-not-root_stands.false) (sym c.in_err-held.was ∙ c.pass_over.ensures.finds)

pub returns : goal.returns
returns c =
    c.then_some.ensures
    ∙ found_held _ c.args.s (sym c.table_fits.ensures ∙ c.if-not-table_fits.false) (sym c.root_stands.ensures ∙ c.if-not-root_stands.false) _ _ _ (sym c.in_ok-held.was ∙ c.pass_over.ensures.finds) c.marks_stand.ensures c.counts_stand.ensures
