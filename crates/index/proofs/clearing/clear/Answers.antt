use Rattle.index.specs.CallLaws.{clear_refused, clear_done}
use Rattle.index.proofs.clearing.clear.Goals as goal

pub returns-then-not-table_fits : goal.returns-then-not-table_fits
returns-then-not-table_fits c = clear_refused _ _ _ c.table_fits.ensures c.if-not-table_fits.true

pub returns : goal.returns
returns c = clear_done _ _ _ c.table_fits.ensures _ _ c.if-not-table_fits.false c.clear.ensures c.empty.ensures
