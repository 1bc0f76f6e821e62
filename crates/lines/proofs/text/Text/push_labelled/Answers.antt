use Rattle.std.proofs.Common.{arith}
use Rattle.lines.specs.NumberLaws.{decimal_most}
use Rattle.lines.proofs.Fills.{puts_then}
use Rattle.lines.proofs.text.Text.push_labelled.Goals as goal

pub returns-clause-puts : goal.returns-clause-puts
returns-clause-puts c = puts_then c.push.ensures.puts c.push_number.ensures.puts (omega (arith, decimal_most 10 c.args.n))

pub returns-clause-most : goal.returns-clause-most
returns-clause-most c = omega (arith, decimal_most 10 c.args.n)
