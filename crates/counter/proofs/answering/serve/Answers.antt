use Rattle.std.proofs.Common.{subst}
use Rattle.lines.specs.Printing.{Prints}
use Rattle.counter.specs.Steps.{served_line}
use Rattle.counter.proofs.answering.serve.Goals as goal

pub returns : goal.returns
returns c = served_line _ _ _ _ _ c.answer-said.result _ _ _ _ c.requires.1 c.answer-said.ensures (subst (λ x. Prints x c.args.out.now c.print.new.out c.args.at c.print.result) c.numbered.ensures c.print.ensures)
