use Rattle.std.specs.Prelude.{◌-◌, map, take}
use Rattle.pages.specs.Layout.{pages_of}
use Rattle.recording.specs.StrikeSteps.{naming}
use Rattle.recording.specs.Views.{Frees}
use Rattle.rules.specs.Strike.{strike_all, strike_one}
use Rattle.recording.proofs.strike.+free_under.Given as goal

abbrev pub decreases-free_under : goal.decreases-free_under
decreases-free_under l = l.n

abbrev pub invariant-loop-c : goal.invariant-loop-c
invariant-loop-c l = Frees l.initial.t l.t l.struck (strike_all (strike_one (l.n - 1)) (pages_of l.initial.t) (map naming (take l.c-index l.c-items)))
