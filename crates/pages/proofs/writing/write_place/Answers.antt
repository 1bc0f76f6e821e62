use Rattle.pages.specs.WritingLaws.{entry_placed}
use Rattle.pages.proofs.writing.write_place.Goals as goal

pub returns : goal.returns
returns c = entry_placed c.args.s.now c.args.n c.args.i c.args.e _ c.requires.0 c.requires.1 c.write_entry.ensures
