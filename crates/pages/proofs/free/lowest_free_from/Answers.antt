use Rattle.std.proofs.Common.{◌∙◌, sym, arith}
use Rattle.pages.specs.FreeLaws.{lowest_here, lowest_on, lowest_end}
use Rattle.pages.proofs.free.lowest_free_from.Goals as goal

pub returns-then-t-p-eq0 : goal.returns-then-t-p-eq0
returns-then-t-p-eq0 c = sym (lowest_here c.args.t.now c.loop-p.p (omega arith) c.if-t-p-eq0.true) ∙ c.loop-p.invariant

pub loop-p-preserved : goal.loop-p-preserved
loop-p-preserved c = sym (lowest_on c.args.t.now c.loop-p.p (omega arith) c.if-t-p-eq0.false) ∙ c.loop-p.invariant

pub returns : goal.returns
returns c = sym (lowest_end c.args.t.now c.loop-p.p (omega arith)) ∙ c.loop-p.invariant
