use Rattle.std.proofs.Common.{arith, rules}
use Rattle.lines.specs.Printing.{Prints}
use Rattle.lines.proofs.Fills.{no_room, ended}
use Rattle.lines.proofs.printing.print.Goals as goal

pub returns-then-saturating_sub-lt-LONGEST : goal.returns-then-saturating_sub-lt-LONGEST
returns-then-saturating_sub-lt-LONGEST c = no_room _ _ _ (omega arith)

pub returns : goal.returns
returns c =
    let printed : Prints c.args.said c.args.out.now c.push.new.self.out.now c.args.at c.push.new.self.at = ended (omega arith) c.put.ensures.said c.put.ensures.most c.push.ensures.puts in
    search (rules, printed)
