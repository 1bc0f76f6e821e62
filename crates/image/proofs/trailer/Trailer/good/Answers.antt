use Rattle.image.specs.Image.{trailer_good}
use Rattle.image.proofs.trailer.Trailer.good.Goals as goal

pub returns : goal.returns
unfolding trailer_good
returns c = rw c.from.ensures
