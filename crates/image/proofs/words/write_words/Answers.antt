use Rattle.std.proofs.Common.{List, ℕ, get_or, ap, refl, arith}
use Rattle.image.specs.Bytes.{word_bytes}
use Rattle.image.proofs.Turns.{written_more, written_all}
use Rattle.image.proofs.words.write_words.Goals as goal

pub loop-i-init : goal.loop-i-init
unfolding word_bytes
loop-i-init c = refl

pub loop-i-preserved : goal.loop-i-preserved
loop-i-preserved c =
    let low = ap (λ (l : List ℕ). get_or l 0 0) c.to_le_bytes.ensures in
    let high = ap (λ (l : List ℕ). get_or l 1 0) c.to_le_bytes.ensures in
    written_more _ _ _ _ _ (omega arith) (omega arith) low (omega (arith, high, c.type_inv.words c.loop-i.i)) c.loop-i.invariant

pub returns : goal.returns
returns c = written_all _ _ c.loop-i.i (omega arith) (omega arith) c.loop-i.invariant
