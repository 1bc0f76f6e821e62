use Rattle.std.specs.Prelude.{take}
use Rattle.pages.specs.Summary.{in_use}
use Rattle.recording.specs.LookSteps.{Sees}
use Rattle.recording.proofs.news.News.strikes_some.Given as goal

abbrev pub invariant-loop-i : goal.invariant-loop-i
invariant-loop-i l = Sees l.self.sieve l.self.gust (take l.i (in_use l.page)) l.some
