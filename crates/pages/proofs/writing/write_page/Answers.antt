use Rattle.pages.specs.WritingLaws.{page_stored}
use Rattle.pages.proofs.writing.write_page.Goals as goal

pub returns : goal.returns
returns c = page_stored c.args.s.now c.args.x _ c.requires c.write_entries.ensures
