use Rattle.std.proofs.Common.{arith, ap, length, ◌∙◌}
use Rattle.std.proofs.Math.Seq.{length-take-le}
use Rattle.counter.proofs.Keeping.{pushed, pushed_line}
use Rattle.counter.proofs.kept.Kept.push.Goals as goal

pub invariant_of-self : goal.invariant_of-self
invariant_of-self c =
    pushed_line c.self.inside.bytes _ c.self.inside.count c.min-n.result c.self.invariant (omega arith)
    (ap length c.copy_from_slice.ensures.after ∙ length-take-le c.min-n.result c.args.more.now (omega arith))

pub returns : goal.returns
returns c = pushed c.self.inside.bytes _ c.args.more.now _ c.self.inside.count c.min-n.result c.self.told c.self.invariant.most c.self.view_is c.min-n.ensures c.copy_from_slice.ensures.after
