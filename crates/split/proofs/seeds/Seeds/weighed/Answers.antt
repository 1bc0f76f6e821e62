use native.Mathlib.Omega.{arith}
use Rattle.split.specs.Split.{box_at}
use Rattle.split.specs.WorkLaws.{size_at, both_within}
use Rattle.split.proofs.seeds.Seeds.weighed.Goals as goal

pub overflow_add-result : goal.overflow_add-result
overflow_add-result c =
    let bs = c.args.boxes.now in
    let a = c.args.first in
    let b = c.args.second in
    record { fits = omega (arith, size_at bs c.args.sizes.now a (omega arith) c.requires.2, size_at bs c.args.sizes.now b (omega arith) c.requires.2, both_within (box_at bs a) (box_at bs b), c.cover_size.ensures) }

pub invariant_of-result : goal.invariant_of-result
invariant_of-result c =
    let bs = c.args.boxes.now in
    let a = c.args.first in
    let b = c.args.second in
    record {
      ordered = c.requires.0;
      within = c.requires.1;
      cover_fits = c.cover_size.ensures.1;
      both_fits = omega (arith, size_at bs c.args.sizes.now a (omega arith) c.requires.2, size_at bs c.args.sizes.now b (omega arith) c.requires.2, both_within (box_at bs a) (box_at bs b), c.cover_size.ensures);
    }
