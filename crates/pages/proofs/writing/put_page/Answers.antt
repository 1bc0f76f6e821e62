use Rattle.pages.specs.WritingLaws.{page_placed}
use Rattle.pages.proofs.writing.put_page.Goals as goal

pub returns : goal.returns
returns c = page_placed _ _ _ _ c.write_page.ensures
