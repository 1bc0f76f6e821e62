use Rattle.std.proofs.Common.{refl, arith}
use Rattle.image.specs.Bytes.{byte_words, number}
use Rattle.image.proofs.Turns.{taken_more, taken_all}
use Rattle.image.proofs.words.read_words.Goals as goal

pub loop-i-init : goal.loop-i-init
unfolding byte_words
loop-i-init c = refl

pub loop-i-preserved : goal.loop-i-preserved
unfolding number
loop-i-preserved c = taken_more c.args.bytes.now _ _ _ (omega arith) (omega arith) (omega (arith, c.from_le_bytes.ensures)) c.loop-i.invariant

pub returns : goal.returns
returns c = taken_all c.args.bytes.now _ c.loop-i.i (omega arith) (omega arith) c.loop-i.invariant
