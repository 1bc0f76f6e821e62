use Rattle.lines.specs.Printing.{printed}
use Rattle.lines.proofs.printing.put.Goals as goal

pub returns-in-Err-clause-said : goal.returns-in-Err-clause-said
unfolding printed
returns-in-Err-clause-said c = record { bytes = _; but_end = rw c.in-Err.is; puts = c.push_labelled.ensures.puts }
