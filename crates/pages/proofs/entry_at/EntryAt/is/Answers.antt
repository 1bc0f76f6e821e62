use Rattle.std.proofs.Common.{◌∙◌, ap}
use Rattle.pages.specs.Layout.{words_of_entry}
use Rattle.pages.specs.Words.{same_words}
use Rattle.pages.specs.WordLaws.{same_entry_is}
use Rattle.pages.proofs.entry_at.EntryAt.is.Goals as goal

pub returns : goal.returns
returns c = c.eq.ensures ∙ same_entry_is c.read.result c.args.other ∙ ap (λ x. same_words (words_of_entry x) (words_of_entry c.args.other)) c.read.ensures
