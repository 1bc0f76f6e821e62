use Rattle.std.proofs.Common.{rules}
use Rattle.strip.specs.CallLaws.{value_end, value_begins}
use Rattle.strip.proofs.segments.Segments.value_from.Goals as goal

pub returns : goal.returns
returns c = search (rules, value_end, value_begins)
