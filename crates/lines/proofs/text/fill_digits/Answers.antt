use Rattle.std.proofs.Common.{◌∙◌, arith}
use Rattle.lines.proofs.Fills.{none_filled, one_filled, all_filled}
use Rattle.lines.proofs.text.fill_digits.Goals as goal

pub loop-k-init : goal.loop-k-init
loop-k-init c = none_filled c.args.n c.args.out.now

pub loop-k-preserved : goal.loop-k-preserved
loop-k-preserved c = one_filled c.loop-k.out c.loop-k.k c.loop-k.rest (omega arith) (omega arith) ∙ c.loop-k.invariant

pub returns : goal.returns
returns c = all_filled c.loop-k.out c.loop-k.k c.loop-k.rest (omega arith) ∙ c.loop-k.invariant
