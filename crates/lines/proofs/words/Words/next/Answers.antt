use Rattle.std.proofs.Common.{◌≡◌, rules, Some, sym, ap, ◌∙◌}
use Rattle.lines.specs.Cursor.{words_left}
use Rattle.lines.proofs.FirstWord.{first_word, only_word}
use Rattle.lines.proofs.words.Words.next.Goals as goal

pub returns-in-Some : goal.returns-in-Some
returns-in-Some c =
    let rest : c.self.inside.rest ≡ Some c.in_ok-rest.rest = search rules in
    sym c.self.view_is ∙ ap words_left rest ∙ first_word _ _ (sym c.first_space.ensures ∙ c.in-Some.is)

pub returns-in-None : goal.returns-in-None
returns-in-None c =
    let rest : c.self.inside.rest ≡ Some c.in_ok-rest.rest = search rules in
    sym c.self.view_is ∙ ap words_left rest ∙ only_word _ (sym c.first_space.ensures ∙ c.in-None.is)
