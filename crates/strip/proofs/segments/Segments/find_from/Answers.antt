use Rattle.std.proofs.Common.{arith}
use Rattle.strip.specs.AskLaws.{later_found}
use Rattle.strip.proofs.segments.Segments.find_from.Goals as goal

pub overflow_add-result : goal.overflow_add-result
overflow_add-result c =
    let there = later_found _ c.args.self.good _ _ _ c.requires.lawful c.requires.inside c.requires.begins c.ended.ensures in
    record { fits = omega (arith, there.inside) }

pub returns : goal.returns
returns c =
    let there = later_found _ c.args.self.good _ _ _ c.requires.lawful c.requires.inside c.requires.begins c.ended.ensures in
    (there, omega arith)
