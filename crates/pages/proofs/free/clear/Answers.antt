use Rattle.pages.specs.FreeLaws.{cleared, cleared_none}
use Rattle.pages.proofs.free.clear.Goals as goal

pub returns-then-t-gt0 : goal.returns-then-t-gt0
returns-then-t-gt0 c = cleared _ c.args.t.now (c.fill.ensures.after (λ y e. e))

pub returns-else-t-gt0 : goal.returns-else-t-gt0
returns-else-t-gt0 c = cleared_none _ c.args.t.now c.if-t-gt0.false (c.fill.ensures.after (λ y e. e))
