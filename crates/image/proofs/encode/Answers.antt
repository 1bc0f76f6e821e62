use Rattle.image.proofs.Whole.{image_told}
use Rattle.image.proofs.encode.Goals as goal

pub returns : goal.returns
returns c =
    image_told _ _ _ _ _ _ _
    c.write_words.ensures
    c.write_words-2.ensures
    c.trailer_words-trailer.ensures
