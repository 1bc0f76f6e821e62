use native.Mathlib.Omega.{arith}
use Rattle.ground.specs.Boxes.{size, join}
use Rattle.ground.specs.BoxLaws.{products}
use Rattle.split.proofs.covers.cover_size.Goals as goal

pub returns : goal.returns
unfolding size join
returns c =
    let a = c.joined_length in
    let b = c.joined_length-2 in
    let d = c.joined_length-3 in
    (rw (a.ensures.0, b.ensures.0, d.ensures.0), (products a.result b.result d.result (omega arith) (omega arith) (omega arith)).1)
