use mathlib.Core.Path.{sym, ◌∙◌}
use Rattle.std.proofs.lemmas.Result.{err_from_is_err_and}
use Rattle.wellformed.specs.VerdictLaws.{well_held}
use Rattle.recording.specs.RefusalSteps.{positive, no_table, by_record, damaged, by_book}
use Rattle.recording.proofs.refusal.accept.Goals as goal

pub returns-then-not-table_fits : goal.returns-then-not-table_fits
returns-then-not-table_fits c = no_table c.args.t.now c.args.s c.args.b c.args.v (sym c.table_fits.ensures ∙ c.if-not-table_fits.true)

pub returns-in_err-may_come : goal.returns-in_err-may_come
returns-in_err-may_come c =
    let p = err_from_is_err_and c.from_residual.result c.from_residual.ensures.1 in
    rw (p.1, p.2) (by_record c.args.t.now c.args.s c.args.b c.args.v _ (sym c.table_fits.ensures ∙ c.if-not-table_fits.false) c.in_err-may_come.ensures (positive _))

pub returns-in_err-check : goal.returns-in_err-check
returns-in_err-check c =
    let p = err_from_is_err_and c.from_residual-in_err-check.result c.from_residual-in_err-check.ensures.1 in
    rw (p.1, p.2) (damaged c.args.t.now c.args.s c.args.b c.args.v _ c.in_ok-may_come.ensures (sym c.table_fits.ensures ∙ c.if-not-table_fits.false) c.in_err-check.ensures)

pub returns : goal.returns
returns c = by_book c.args.t.now c.args.s c.args.b c.args.v _ c.in_ok-may_come.ensures (sym c.table_fits.ensures ∙ c.if-not-table_fits.false) (sym (well_held _ _ c.check.result c.check.ensures _ c.in_ok-check.was)) c.has_room.ensures
