use Rattle.std.proofs.Common.{Ok, ap}
use Rattle.std.proofs.lemmas.Result.{err_from_is_err_and}
use Rattle.counter.specs.Counter.{record_says}
use Rattle.counter.specs.Steps.{told_add}
use Rattle.counter.proofs.answering.add.Goals as goal

pub returns-in_err-done : goal.returns-in_err-done
unfolding record_says
returns-in_err-done c =
    let p = err_from_is_err_and c.from_residual.result c.from_residual.ensures.1 in
    told_add _ _ _ _ _ _ _ _ c.record_sound.result _ c.narrow.ensures c.narrow-2.ensures c.record_sound.ensures (rw (p.1, p.2, c.in_err-done.was))

pub returns : goal.returns
unfolding record_says
returns c =
    told_add _ _ _ _ _ _ _ _ c.record_sound.result _ c.narrow.ensures c.narrow-2.ensures c.record_sound.ensures (rw c.in_ok-done.was (ap Ok c.recorded.ensures))
