use Rattle.strip.specs.PieceLaws.{piece_taken}
use Rattle.strip.proofs.raising.Raise.take_piece.Goals as goal

pub returns : goal.returns
returns c =
    piece_taken _ _ _ _ _ _ _ _ _ _ _ c.requires.0 c.requires.1 c.first_day-first.ensures c.piece_first-from.ensures c.from.ensures.1
    c.piece_value-value.ensures c.from-2.ensures c.put_in_front-place.ensures (rw c.from-3.ensures)
