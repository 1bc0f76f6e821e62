use Rattle.image.specs.Image.{table_of}
use Rattle.image.proofs.decode.Goals as goal

pub returns : goal.returns
unfolding table_of
returns c = cc
