use Rattle.std.proofs.Common.{◌≡◌, ◌*◌, take}
use Rattle.image.specs.Bytes.{word_bytes}
use Rattle.image.proofs.words.write_words.Given as goal

abbrev pub invariant-loop-i : goal.invariant-loop-i
invariant-loop-i l = take (2 * l.i) l.out ≡ word_bytes (take l.i l.words)
