use Rattle.std.proofs.Common.{◌≡◌, drop}
use Rattle.pages.specs.Layout.{pages_of}
use Rattle.pages.specs.Free.{lowest_from}
use Rattle.pages.proofs.free.lowest_free_from.Given as goal

abbrev pub invariant-loop-p : goal.invariant-loop-p
invariant-loop-p l = lowest_from l.p (drop l.p (pages_of l.t)) ≡ lowest_from l.from (drop l.from (pages_of l.t))
