use Rattle.std.proofs.lemmas.Result.{err_from_is_err_and}
use Rattle.recording.specs.CallSteps.{call_refused, call_accepted, call_answered}
use Rattle.recording.proofs.call.record.Goals as goal

pub returns-in_err-accept : goal.returns-in_err-accept
returns-in_err-accept c =
    let p = err_from_is_err_and c.from_residual.result c.from_residual.ensures.1 in
    rw (p.1, p.2) (call_refused c.args.t.now c.args.s.now c.args.b c.args.v _ c.in_err-accept.ensures)

pub recorded-requires : goal.recorded-requires
recorded-requires c = call_accepted c.args.t.now c.args.s.now c.args.b c.args.v c.in_ok-accept.ensures

pub returns : goal.returns
returns c = call_answered c.args.t.now c.args.s.now c.args.b c.args.v c.recorded.new.t c.recorded.new.s c.recorded.result c.in_ok-accept.ensures c.recorded.ensures
