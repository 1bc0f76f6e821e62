use Rattle.std.proofs.Common.{◌≡◌, ◌+◌, drop}
use Rattle.pages.specs.Layout.{pages_of}
use Rattle.pages.specs.Free.{free_count}
use Rattle.pages.proofs.free.free_at_least.Given as goal

abbrev pub invariant-loop-p : goal.invariant-loop-p
invariant-loop-p l = l.left + free_count (drop l.p (pages_of l.t)) ≡ l.n
