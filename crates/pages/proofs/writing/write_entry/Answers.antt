use Rattle.pages.specs.WritingLaws.{entry_stored}
use Rattle.pages.proofs.writing.write_entry.Goals as goal

pub returns : goal.returns
returns c =
    entry_stored c.args.s.now c.args.e _ _ _ c.requires
    c.write_box.ensures c.write_box-2.ensures c.write_box-3.ensures
