use Rattle.std.proofs.Common.{arith, rules}
use Rattle.wellformed.specs.VerdictLaws.{held_leaf, held_no_leaf}
use Rattle.wellformed.proofs.verdict.held_in.Goals as goal

pub returns-then-level-eq1 : goal.returns-then-level-eq1
returns-then-level-eq1 c = (c.in_use.ensures.0, held_leaf c.args.page.now c.level.result _ c.level.ensures (omega arith) c.in_use.ensures.1)

pub returns-else-level-eq1 : goal.returns-else-level-eq1
returns-else-level-eq1 c = (search rules, held_no_leaf c.args.page.now c.level.result c.level.ensures (λ e. omega arith))
