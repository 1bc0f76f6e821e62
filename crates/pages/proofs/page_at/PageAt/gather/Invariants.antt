use Rattle.pages.specs.Summary.{in_use}
use Rattle.pages.specs.GatherLaws.{Gathered}
use Rattle.pages.proofs.page_at.PageAt.gather.Given as goal

abbrev pub invariant-loop-i : goal.invariant-loop-i
invariant-loop-i l = Gathered (in_use l.self) l.level l.i l.weakest l.strongest.key l.strongest.place l.largest.key l.largest.place
