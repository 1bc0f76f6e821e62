use Rattle.wellformed.specs.WellFormed.{leaf_entry_stands}
use Rattle.pages.specs.Words.{every, all_zero}
use Rattle.pages.specs.Summary.{in_use}
use Rattle.pages.specs.Laid.{words_laid}
use Rattle.std.proofs.Common.{drop, ◌&&◌, ◌≡◌}
use Rattle.wellformed.proofs.entries.leaf_entries_stand.Given as goal

abbrev pub invariant-loop-i : goal.invariant-loop-i
invariant-loop-i l = (l.stands && all_zero (words_laid l.rest) && every leaf_entry_stands (drop l.i (in_use l.page))) ≡ every leaf_entry_stands (in_use l.page)
