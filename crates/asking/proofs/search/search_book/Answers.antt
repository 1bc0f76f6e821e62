use Rattle.std.proofs.Common.{rules, ap, ◌∙◌, ◌≡◌, Ok}
use Rattle.std.specs.Prelude.{Result}
use Rattle.std.proofs.lemmas.Result.{err_from_is_err_and}
use Rattle.ground.specs.declared.refusals.Refusal.{Refusal}
use Rattle.asking.specs.Asking.{answered, found}
use Rattle.asking.specs.Turns.{answer_found, answer_refused}
use Rattle.asking.specs.declared.Asked.{Asked}
use Rattle.asking.proofs.search.search_book.Goals as goal

pub returns-in_err-best : goal.returns-in_err-best
returns-in_err-best c =
    let p = err_from_is_err_and c.from_residual.result c.from_residual.ensures.1 in
    rw (p.1, p.2) (answer_refused _ _ _ _ c.search_root.ensures.comes c.in_err-best.ensures.value)

pub returns : goal.returns
unfolding answered
returns c =
    let h : ◌≡◌ {A = Result Asked Refusal} (Ok (record { gust = c.map-gust.result; pages = c.search_root.new.opened })) (answered (found c.in_ok-best.best c.search_root.new.opened)) = search rules in
    h ∙ ap answered (answer_found _ _ _ _ c.search_root.ensures.comes c.in_ok-best.ensures.value)
