use Rattle.pages.specs.Layout.{words_of_box}
use Rattle.pages.specs.WritingLaws.{stored}
use Rattle.pages.proofs.writing.write_box.Goals as goal

pub returns : goal.returns
unfolding words_of_box
returns c = stored (words_of_box c.args.b) c.args.s.now c.requires
