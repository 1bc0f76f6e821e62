use Rattle.sieve.specs.Sieve.{touching_rows, covering_rows}
use Rattle.sieve.specs.SieveLaws.{sieve_is}
use Rattle.sieve.proofs.Sieve.of.Goals as goal

pub invariant_of-result : goal.invariant_of-result
unfolding touching_rows covering_rows
invariant_of-result c = sieve_is c.args.q
