use Rattle.std.specs.Prelude.{◌-◌}
use Rattle.recording.specs.RootSteps.{Collapsing}
use Rattle.rules.specs.Recording.{collapse}
use Rattle.pages.specs.Layout.{pages_of}
use Rattle.recording.proofs.root.collapse.Given as goal

abbrev pub invariant-loop : goal.invariant-loop
invariant-loop l = Collapsing (l.n - l.counter) l.initial.t l.t l.r (collapse l.n (pages_of l.initial.t) l.root)
