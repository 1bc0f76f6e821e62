use Rattle.std.proofs.lemmas.Result.{err_from_is_err_and}
use Rattle.recording.specs.CallSteps.{call_refused, call_accepted, call_answered}
use Rattle.recording.proofs.call.record_sound.Goals as goal

pub returns-in_err-accept_sound : goal.returns-in_err-accept_sound
returns-in_err-accept_sound c =
    let p = err_from_is_err_and c.from_residual.result c.from_residual.ensures.1 in
    rw (p.1, p.2) (call_refused c.args.t.now c.args.s.now c.args.b c.args.v _ c.in_err-accept_sound.ensures)

pub recorded-requires : goal.recorded-requires
recorded-requires c = call_accepted c.args.t.now c.args.s.now c.args.b c.args.v c.in_ok-accept_sound.ensures

pub returns : goal.returns
returns c = call_answered c.args.t.now c.args.s.now c.args.b c.args.v c.recorded.new.t c.recorded.new.s c.recorded.result c.in_ok-accept_sound.ensures c.recorded.ensures
