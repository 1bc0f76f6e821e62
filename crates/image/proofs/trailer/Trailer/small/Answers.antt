use Rattle.image.specs.Image.{small_of}
use Rattle.image.proofs.trailer.Trailer.small.Goals as goal

pub returns : goal.returns
unfolding small_of
returns c = cc
