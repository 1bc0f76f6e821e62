use Rattle.std.proofs.Common.{◌≡◌, ◌*◌, take}
use Rattle.image.specs.Bytes.{byte_words}
use Rattle.image.proofs.words.read_words.Given as goal

abbrev pub invariant-loop-i : goal.invariant-loop-i
invariant-loop-i l = take l.i l.words ≡ byte_words (take (2 * l.i) l.bytes)
