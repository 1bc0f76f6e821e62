use Rattle.recording.specs.StrikeSteps.{Striking}
use Rattle.recording.proofs.strike.strike_page.Given as goal

abbrev pub invariant-loop-e : goal.invariant-loop-e
invariant-loop-e l = Striking l.n l.b l.v l.initial.rest.level l.e-items l.e-index l.initial.t l.t l.struck l.rest
