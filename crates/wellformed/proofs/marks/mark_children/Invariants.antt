use Rattle.std.proofs.Common.{◌≡◌, drop, map}
use Rattle.pages.specs.Summary.{in_use}
use Rattle.wellformed.specs.WellFormed.{child_of}
use Rattle.wellformed.specs.MarkLaws.{marked}
use Rattle.wellformed.proofs.marks.mark_children.Given as goal

abbrev pub invariant-loop-i : goal.invariant-loop-i
invariant-loop-i l = marked l.marks (map child_of (drop l.i (in_use l.page))) ≡ marked l.initial.marks (map child_of (in_use l.page))
