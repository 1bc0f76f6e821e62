use Rattle.std.proofs.Common.{arith, append_assoc}
use Rattle.lines.specs.Printing.{labelled, line_end, printed}
use Rattle.lines.proofs.Fills.{puts_then, four_parts}
use Rattle.lines.proofs.printing.Answer.put.Goals as goal

pub returns-in-Kept-clause-said : goal.returns-in-Kept-clause-said
unfolding printed
returns-in-Kept-clause-said c = record { bytes = _; but_end = rw c.in-Kept.is; puts = c.push_labelled.ensures.puts }

pub returns-in-Cut-clause-said : goal.returns-in-Cut-clause-said
unfolding printed
returns-in-Cut-clause-said c = record { bytes = _; but_end = rw c.in-Cut.is; puts = c.push_labelled-in-Cut.ensures.puts }

pub returns-in-Covered-clause-said : goal.returns-in-Covered-clause-said
unfolding printed
returns-in-Covered-clause-said c = record { bytes = _; but_end = rw c.in-Covered.is; puts = c.push_labelled-in-Covered.ensures.puts }

pub returns-in-Gust-clause-said : goal.returns-in-Gust-clause-said
unfolding printed
returns-in-Gust-clause-said c = record { bytes = _; but_end = rw c.in-Gust.is (simp append_assoc); puts = puts_then c.push_labelled-in-Gust.ensures.puts c.push_labelled-in-Gust-2.ensures.puts (omega arith) }

pub returns-in-Nothing-clause-said : goal.returns-in-Nothing-clause-said
unfolding printed
returns-in-Nothing-clause-said c = record { bytes = _; but_end = rw c.in-Nothing.is; puts = c.push_labelled-in-Nothing.ensures.puts }

pub returns-in-Counts-clause-said : goal.returns-in-Counts-clause-said
unfolding printed
returns-in-Counts-clause-said c =
    let two = puts_then c.push_labelled-in-Counts.ensures.puts c.push_labelled-in-Counts-2.ensures.puts (omega arith) in
    let three = puts_then two c.push_labelled-in-Counts-3.ensures.puts (omega arith) in
    record { bytes = _; but_end = rw c.in-Counts.is (four_parts (labelled "accepted " c.in-Counts.accepted) (labelled " held " c.in-Counts.held) (labelled " struck " c.in-Counts.struck) (labelled " covered " c.in-Counts.covered) line_end); puts = puts_then three c.push_labelled-in-Counts-4.ensures.puts (omega arith) }
