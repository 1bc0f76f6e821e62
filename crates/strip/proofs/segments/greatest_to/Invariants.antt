use Rattle.std.proofs.Common.{◌≡◌, drop}
use Rattle.strip.specs.AskLaws.{up_to}
use Rattle.strip.proofs.segments.greatest_to.Given as goal

abbrev pub invariant-loop-w : goal.invariant-loop-w
invariant-loop-w l = up_to l.day (drop l.w-index l.words) l.best ≡ up_to l.day l.words 0
