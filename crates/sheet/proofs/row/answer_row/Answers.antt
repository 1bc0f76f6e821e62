use Rattle.sheet.specs.Rows.{row_answered}
use Rattle.sheet.proofs.row.answer_row.Goals as goal

pub returns : goal.returns
returns c = search row_answered
