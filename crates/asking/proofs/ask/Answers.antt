use Rattle.std.proofs.Common.{sym, ◌∙◌}
use Rattle.asking.specs.Turns.{asked_no_table, asked_no_box, asked_found, told_so}
use Rattle.asking.proofs.ask.Goals as goal

pub returns-then-not-table_fits : goal.returns-then-not-table_fits
returns-then-not-table_fits c = told_so _ _ _ _ (asked_no_table _ _ _ (sym c.table_fits.ensures ∙ c.if-not-table_fits.true))

pub returns-then-not-legal : goal.returns-then-not-legal
returns-then-not-legal c = told_so _ _ _ _ (asked_no_box _ _ _ (sym c.table_fits.ensures ∙ c.if-not-table_fits.false) (sym c.legal.ensures ∙ c.if-not-legal.true))

pub returns : goal.returns
returns c = told_so _ _ _ _ (c.search_book.ensures ∙ asked_found _ _ _ (sym c.table_fits.ensures ∙ c.if-not-table_fits.false) (sym c.legal.ensures ∙ c.if-not-legal.false))
