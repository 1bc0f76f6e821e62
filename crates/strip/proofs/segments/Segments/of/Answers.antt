use Rattle.std.proofs.Common.{arith}
use Rattle.std.proofs.lemmas.Bool.Decides.{nat_tests}
use Rattle.strip.specs.StripCalls.{is_strip}
use Rattle.strip.proofs.segments.Segments.of.Goals as goal

pub returns-then-words-n : goal.returns-then-words-n
unfolding is_strip
returns-then-words-n c = grind (arith, nat_tests)

pub returns-then-not-part_days : goal.returns-then-not-part_days
unfolding is_strip
returns-then-not-part_days c = grind (arith, nat_tests)

pub returns : goal.returns
unfolding is_strip
returns c = grind (arith, nat_tests)
