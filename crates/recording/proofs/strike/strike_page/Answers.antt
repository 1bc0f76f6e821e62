use Rattle.std.proofs.Common.{rules, arith, length, take, length-take, ◌≤◌, ◌<◌, ◌≡◌, sym}
use Rattle.pages.specs.WritingLaws.{unmapped}
use Rattle.recording.specs.StrikeSteps.{striking_none, striking_struck, striking_kept, rest_has_room, page_struck}
use Rattle.recording.proofs.strike.strike_page.Goals as goal
use Rattle.recording.proofs.strike.strike_page.Goals.{then-is_struck, else-is_struck}

has_room : (c : goal.After-from-else-is_struck) → c.loop-e.rest.count < 8
has_room c = rest_has_room _ _ _ _ _ c.loop-e.e-index _ _ _ _ c.loop-e-test.true c.loop-e.invariant (omega (arith, length-take c.min.result c.load-x.result.entries))

pub loop-e-init : goal.loop-e-init
loop-e-init c = search striking_none

pub offset_bounds-rest-from : goal.offset_bounds-rest-from
offset_bounds-rest-from c = omega (arith, has_room c)

pub bounds-rest-from : goal.bounds-rest-from
bounds-rest-from c = omega (arith, has_room c)

pub overflow_add-rest : goal.overflow_add-rest
overflow_add-rest c = omega (arith, has_room c)

pub loop-e-preserved : goal.loop-e-preserved
loop-e-preserved c = elim c.if-is_struck.branch [
  | then-is_struck w ↦ rw (w.t-is, w.struck-is) (striking_struck _ _ _ _ _ c.loop-e.e-index _ _ _ _ c.loop-e-test.true c.loop-e.invariant _ _ _ _ (sym w.if-is_struck.ensures) w.free_under.ensures w.more_struck-struck.ensures w.rest-is)
  | else-is_struck w ↦
      striking_kept _ _ _ _ _ c.loop-e.e-index _ _ _ _ c.loop-e-test.true c.loop-e.invariant _ _ _ _ (omega (arith, length-take c.min.result c.load-x.result.entries)) (sym w.if-is_struck.ensures) w.from-else-is_struck.ensures w.rest-is w.t-is w.struck-is
]

pub returns : goal.returns
returns c = page_struck _ _ _ _ _ c.loop-e.e-index c.min.result _ _ _ _ c.load-x.result _ c.load-x.ensures (search (rules, unmapped)) c.min.ensures c.from.ensures c.loop-e-test.false c.loop-e.invariant c.store.ensures
