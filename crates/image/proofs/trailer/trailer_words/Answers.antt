use Rattle.image.proofs.Whole.{words_told}
use Rattle.image.proofs.trailer.trailer_words.Goals as goal

pub returns : goal.returns
returns c =
    let given = c.args in
    words_told given.form given.pages given.small _ _ _ _ _ _ _ _ _ _ _
    c.saturating_sub-distance.ensures
    c.low_word.ensures
    c.high_word.ensures
    c.low_word-2.ensures
    c.low_word-3.ensures
    c.low_word-4.ensures
    c.high_word-2.ensures
    c.low_word-5.ensures
    c.high_word-3.ensures
    c.low_word-6.ensures
    c.high_word-4.ensures
