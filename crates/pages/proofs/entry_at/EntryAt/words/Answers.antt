use Rattle.std.proofs.Common.{◌∙◌, sym, ap, take_all, arith}
use Rattle.pages.specs.Layout.{words_of_entry}
use Rattle.pages.specs.LayoutLaws.{entry_written}
use Rattle.pages.proofs.entry_at.EntryAt.words.Goals as goal

pub returns : goal.returns
returns c =
    let w = c.self.inside.words.now in
    (sym (take_all 21 w (omega arith)) ∙ sym (entry_written w (omega arith)) ∙ ap words_of_entry c.self.view_is, c.self.invariant)
