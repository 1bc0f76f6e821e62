use Rattle.std.proofs.Common.{arith}
use Rattle.pages.specs.FreeLaws.{count_start, count_down, enough}
use Rattle.pages.proofs.free.free_at_least.Goals as goal

pub loop-p-init : goal.loop-p-init
loop-p-init c = count_start c.args.t.now c.args.n

pub returns-then-left-eq0 : goal.returns-then-left-eq0
returns-then-left-eq0 c = enough c.args.t.now c.loop-p.p c.loop-p.left _ c.if-left-eq0.true c.loop-p.invariant

pub loop-p-preserved : goal.loop-p-preserved
loop-p-preserved c =
    count_down c.args.t.now c.loop-p.p c.loop-p.left _ _ (omega arith) (omega arith) (omega arith) c.from-left.ensures c.loop-p.invariant
