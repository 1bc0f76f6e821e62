use Rattle.std.proofs.Common.{◌≡◌, ◌*◌, ◌++◌, take, drop}
use Rattle.pages.specs.Layout.{entry_words, words_of_entries}
use Rattle.pages.proofs.writing.write_entries.Given as goal

abbrev pub invariant-loop-i : goal.invariant-loop-i
invariant-loop-i l = l.s ≡ words_of_entries (take l.i l.x.entries) ++ drop (l.i * entry_words) l.initial.s
