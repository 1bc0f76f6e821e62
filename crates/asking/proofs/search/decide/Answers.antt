use Rattle.std.proofs.Math.Path.{refl}
use Rattle.std.proofs.Common.{ap₂, ◌||◌}
use Rattle.ground.specs.Tests.{first_of, second_of}
use Rattle.asking.specs.Turns.{step_pass, step_raise, step_open}
use Rattle.asking.proofs.search.decide.Goals as goal
use Rattle.asking.proofs.search.decide.Goals.{then-touches_strongest-via-then-touches_strongest, then-touches_strongest-via-else-touches_strongest+then-covers_place}

pub returns-then-from-best : goal.returns-then-from-best
returns-then-from-best c = step_pass _ _ _ _ _ c.touches_place.ensures c.gust-gust.ensures (rw c.from.ensures at c.if-from-best.true)

pub returns-then-touches_strongest : goal.returns-then-touches_strongest
returns-then-touches_strongest c =
    elim c.then-touches_strongest.branch [
      | then-touches_strongest-via-then-touches_strongest w ↦
          step_raise _ _ _ _ _ c.touches_place.ensures c.gust-gust.ensures _ _ c.touches_strongest.ensures refl (rw c.from.ensures at c.if-from-best.false) (first_of _ _ w.if-touches_strongest.true)
      | then-touches_strongest-via-else-touches_strongest+then-covers_place w ↦
          step_raise _ _ _ _ _ c.touches_place.ensures c.gust-gust.ensures _ _ c.touches_strongest.ensures w.covers_place.ensures (rw c.from.ensures at c.if-from-best.false) (second_of _ _ w.if-covers_place.true)
    ]

pub returns : goal.returns
returns c = step_open _ _ _ _ _ c.touches_place.ensures c.gust-gust.ensures _ _ c.touches_strongest.ensures c.covers_place.ensures (rw c.from.ensures at c.if-from-best.false) _ (ap₂ (λ a b. a || b) c.if-touches_strongest.false c.if-covers_place.false) c.child.ensures
