use Rattle.std.proofs.Common.{◌≡◌, drop}
use Rattle.pages.specs.Ends.{boxed}
use Rattle.pages.specs.Summary.{in_use, covering}
use Rattle.pages.proofs.page_at.PageAt.covering.Given as goal

abbrev pub invariant-loop-i : goal.invariant-loop-i
invariant-loop-i l = boxed l.ends ≡ covering (drop l.i (in_use l.self))
