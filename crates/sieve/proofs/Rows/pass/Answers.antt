use Rattle.std.proofs.Common.{arith}
use Rattle.sieve.proofs.Rows.pass.Goals as goal

pub returns : goal.returns
returns c = (rw (c.each_at_least.ensures, c.each_at_most.ensures), record { small = λ k. omega (arith, c.type_inv.words k) })
