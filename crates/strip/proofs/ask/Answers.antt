use Rattle.std.proofs.Common.{rules, arith}
use Rattle.std.proofs.lemmas.Grind.{common_steps}
use Rattle.strip.specs.StripCalls.{asked, greatest_in, answer_of}
use Rattle.strip.proofs.ask.Goals as goal

pub returns-then-not-legal : goal.returns-then-not-legal
unfolding asked
returns-then-not-legal c = search rules

pub returns-in_err-of : goal.returns-in_err-of
unfolding asked
returns-in_err-of c = search rules

pub returns : goal.returns
unfolding asked greatest_in answer_of
returns c = grind (arith, common_steps)
