use Rattle.std.proofs.Common.{rules}
use Rattle.wellformed.specs.WellFormed.{counts_stand}
use Rattle.wellformed.proofs.verdict.counts_stand.Goals as goal

pub returns : goal.returns
unfolding counts_stand
returns c = search rules
