use mathlib.Core.Path.{◌∙◌}
use native.Mathlib.Omega.{arith}
use Rattle.split.specs.WorkLaws.{worse_step, worse_kept, second_done}
use Rattle.split.proofs.seeds.Seeds.or_worse_with.Goals as goal

pub loop-second-preserved : goal.loop-second-preserved
loop-second-preserved c =
    let bs = c.args.boxes.now in
    let at = c.loop-second in
    let q = c.weighed.ensures in (
      worse_step bs c.args.first at.second at.worst _ c.or_worse-worst.result (omega arith) at.invariant.1 q.1 q.0 c.or_worse-worst.ensures ∙ at.invariant.0,
      worse_kept bs at.worst _ c.or_worse-worst.result c.or_worse-worst.ensures at.invariant.1 q.1,
    )

pub returns : goal.returns
returns c = (second_done _ _ c.loop-second.second _ _ (omega arith) c.loop-second.invariant.0, c.loop-second.invariant.1)
