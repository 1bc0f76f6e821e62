use Rattle.std.proofs.Common.{◌≡◌, take}
use Rattle.pages.specs.Laid.{greater_words}
use Rattle.pages.proofs.words.Laid.over.Given as goal

abbrev pub invariant-loop-i : goal.invariant-loop-i
invariant-loop-i l = l.words ≡ greater_words l.initial.words (take l.i l.row)
