use Rattle.std.proofs.Common.{arith}
use Rattle.lines.specs.NumberLaws.{digits_by_log}
use Rattle.lines.proofs.text.digit_count.Goals as goal

pub returns : goal.returns
returns c = digits_by_log _ _ _ c.max.ensures (omega arith) c.ilog10.ensures.power_le c.ilog10.ensures.next_power_gt
