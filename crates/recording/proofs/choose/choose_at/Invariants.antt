use Rattle.std.specs.Prelude.{◌≡◌, ◌<◌, ◌-◌}
use Rattle.pages.specs.Summary.{in_use}
use Rattle.recording.specs.ChooseSteps.{best_to}
use Rattle.recording.proofs.choose.choose_at.Given as goal

abbrev pub invariant-loop-i : goal.invariant-loop-i
invariant-loop-i l =
    record {
      none : l.i-end ≡ 0 → l.best.at ≡ 0;
      some : 0 < l.i-end → l.best ≡ best_to l.b (in_use l.page) (l.i - 1);
    }
