use Rattle.image.proofs.Whole.{trailer_told}
use Rattle.image.proofs.trailer.Trailer.read.Goals as goal

pub returns : goal.returns
returns c =
    trailer_told _ _ _ _ _ _ c.requires
    c.read_words.ensures
    c.long.ensures
    c.long-2.ensures
    c.long-3.ensures
    c.long-4.ensures
