use native.Mathlib.Omega.{arith}
use Rattle.ground.specs.Boxes.{size}
use Rattle.ground.specs.BoxLaws.{products}
use Rattle.ground.proofs.boxes.Box.size.Goals as goal

pub overflow_mul-result : goal.overflow_mul-result
overflow_mul-result c = record { fits = omega (arith, products c.length.result c.length-2.result 0 (omega arith) (omega arith) (omega arith)) }

pub overflow_mul-result-2 : goal.overflow_mul-result-2
overflow_mul-result-2 c = record { fits = omega (arith, products c.length.result c.length-2.result c.length-3.result (omega arith) (omega arith) (omega arith)) }

pub returns : goal.returns
unfolding size
returns c = rw (c.length.ensures, c.length-2.ensures, c.length-3.ensures)
