use Rattle.std.specs.Prelude.{take, ◌≡◌}
use Rattle.pages.specs.Summary.{in_use}
use Rattle.recording.specs.Views.{sought_of}
use Rattle.rules.specs.Scan.{scan}
use Rattle.recording.proofs.news.News.scan_index.Given as goal

abbrev pub invariant-loop-i : goal.invariant-loop-i
invariant-loop-i l = sought_of l.found ≡ scan 1 l.self.gust (take l.i (in_use l.page)) (sought_of l.initial.found)
