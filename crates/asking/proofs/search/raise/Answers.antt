use Rattle.std.proofs.Common.{arith, sym, ◌∙◌}
use Rattle.asking.specs.Asking.{raised}
use Rattle.asking.proofs.search.raise.Goals as goal

pub returns-then-touches_place-clause-comes : goal.returns-then-touches_place-clause-comes
unfolding raised
returns-then-touches_place-clause-comes c = rw (sym c.touches_place.ensures ∙ c.if-touches_place.true) (omega (arith, c.from-gust.ensures, c.gust.ensures, c.max.ensures))

pub returns-else-touches_place-clause-comes : goal.returns-else-touches_place-clause-comes
unfolding raised
returns-else-touches_place-clause-comes c = rw (sym c.touches_place.ensures ∙ c.if-touches_place.false)
