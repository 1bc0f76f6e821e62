use Rattle.std.proofs.lemmas.Result.{err_from_is_err_and}
use Rattle.index.specs.CallLaws.{count_damaged, count_held}
use Rattle.index.proofs.counting.count.Goals as goal

pub returns-in_err-held : goal.returns-in_err-held
returns-in_err-held c =
    let p = err_from_is_err_and c.from_residual.result c.from_residual.ensures.1 in
    rw (p.1, p.2) (count_damaged _ _ _ c.table_fits.ensures c.check.result _ c.if-not-table_fits.false c.check.ensures c.in_err-held.was)

pub returns : goal.returns
returns c = count_held _ _ _ c.table_fits.ensures c.check.result _ c.if-not-table_fits.false c.check.ensures c.in_ok-held.was
