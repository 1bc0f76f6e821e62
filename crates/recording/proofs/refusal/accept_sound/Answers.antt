use Rattle.std.proofs.lemmas.Result.{err_from_is_err_and}
use Rattle.wellformed.specs.Parts.{parts}
use Rattle.recording.specs.RefusalSteps.{positive, by_record, by_book}
use Rattle.recording.proofs.refusal.accept_sound.Goals as goal

pub returns-in_err-may_come : goal.returns-in_err-may_come
returns-in_err-may_come c =
    let p = err_from_is_err_and c.from_residual.result c.from_residual.ensures.1 in
    rw (p.1, p.2) (by_record c.args.t.now c.args.s c.args.b c.args.v _ (parts _ _ c.requires).fits c.in_err-may_come.ensures (positive _))

pub returns : goal.returns
returns c = by_book c.args.t.now c.args.s c.args.b c.args.v _ c.in_ok-may_come.ensures (parts _ _ c.requires).fits c.requires c.has_room.ensures
