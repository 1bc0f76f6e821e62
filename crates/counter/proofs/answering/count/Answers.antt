use Rattle.std.proofs.Common.{arith}
use Rattle.counter.specs.Steps.{count_sound}
use Rattle.counter.proofs.answering.count.Goals as goal

pub overflow_sub-result : goal.overflow_sub-result
overflow_sub-result c = omega (arith, (count_sound _ _ c.requires).few)

pub overflow_sub-result-2 : goal.overflow_sub-result-2
overflow_sub-result-2 c = omega (arith, (count_sound _ _ c.requires).few)

pub returns : goal.returns
returns c = (count_sound _ _ c.requires).says
