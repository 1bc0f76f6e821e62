use Rattle.std.proofs.lemmas.Result.{err_from_is_err_and}
use Rattle.index.specs.CallLaws.{save_unfit, save_wrong_size, save_damaged, save_done}
use Rattle.index.proofs.images.save.Goals as goal

pub returns-then-not-table_fits : goal.returns-then-not-table_fits
returns-then-not-table_fits c = save_unfit _ _ _ c.table_fits.ensures _ c.if-not-table_fits.true

pub returns-then-out-t : goal.returns-then-out-t
returns-then-out-t c = save_wrong_size _ _ _ c.table_fits.ensures _ c.if-not-table_fits.false c.if-out-t.true

pub returns-in_err-check : goal.returns-in_err-check
returns-in_err-check c =
    let p = err_from_is_err_and c.from_residual.result c.from_residual.ensures.1 in
    rw (p.1, p.2) (save_damaged _ _ _ c.table_fits.ensures _ c.check.result _ c.if-not-table_fits.false c.if-out-t.false c.check.ensures c.in_err-check.was)

pub returns : goal.returns
returns c = save_done _ _ _ c.table_fits.ensures _ _ c.check.result _ c.if-not-table_fits.false c.if-out-t.false c.check.ensures c.in_ok-check.was c.encode.ensures
