use native.Mathlib.Omega.{arith}
use Rattle.strip.specs.WalkingLaws.{first_at_all, first_after}
use Rattle.strip.specs.KnownLaws.{first_most_lem}
use Rattle.strip.proofs.segments.Segments.first_day.Goals as goal

pub returns-then-i-eq0 : goal.returns-then-i-eq0
returns-then-i-eq0 c = search first_at_all

pub overflow_add-result : goal.overflow_add-result
overflow_add-result c =
    record { fits = omega (arith, first_after _ _ _ c.if-i-eq0.false c.from.ensures.0, first_most_lem _ c.args.self.good _ c.requires) }

pub returns : goal.returns
returns c = search first_after
