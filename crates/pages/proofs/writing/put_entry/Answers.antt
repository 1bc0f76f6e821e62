use Rattle.pages.specs.WritingLaws.{place_put}
use Rattle.pages.proofs.writing.put_entry.Goals as goal

pub returns : goal.returns
returns c = place_put c.args.t.now c.args.p c.args.n c.args.i c.args.e _ c.requires.0 c.write_place.ensures
