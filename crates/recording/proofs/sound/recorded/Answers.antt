use Rattle.recording.specs.CallSteps.{answered_so, may_walk_from_root}
use Rattle.recording.specs.RecordSteps.{all_recorded, from_handed_in}
use Rattle.recording.specs.RefusalSteps.{sound_small}
use native.Mathlib.Omega.{arith}
use borrow.Author.Rules.{rules}
use Rattle.recording.proofs.sound.recorded.Goals as goal

pub overflow_cast-root : goal.overflow_cast-root
overflow_cast-root c = search (rules, sound_small c.args.t.now c.args.s.now c.requires.sound)

pub overflow_sub-height : goal.overflow_sub-height
overflow_sub-height c = search (rules, sound_small c.args.t.now c.args.s.now c.requires.sound)

pub from_root-w-requires : goal.from_root-w-requires
from_root-w-requires c = rw c.from.ensures (may_walk_from_root c.args.t.now c.args.s.now c.args.b c.args.v c.handed_in.result c.requires c.handed_in.ensures)

pub small_after-requires : goal.small_after-requires
small_after-requires c =
    let fine = sound_small c.args.t.now c.args.s.now c.requires.sound in
    (omega (arith, fine.accepted, c.requires.unspent), fine.struck, fine.covered, omega (arith, c.from_root-w.ensures.struck_is))

pub returns : goal.returns
returns c =
    answered_so c.args.t.now _ c.args.s.now _ c.args.b c.args.v _ c.requires
    (all_recorded c.args.t.now _ _ _ c.args.s.now _ c.args.b c.args.v _ _ c.from_root-w.result c.outcome_of.result
    (from_handed_in _ _ _ _ _ _ _ _ c.handed_in.ensures (rw c.from.ensures at c.from_root-w.ensures))
    c.put_root_right-top.ensures c.collapse-last.ensures c.outcome_of.ensures c.small_after.ensures)
