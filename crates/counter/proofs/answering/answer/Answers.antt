use Rattle.std.proofs.Common.{Ok, ap, sym, ◌∙◌}
use Rattle.std.proofs.lemmas.Result.{err_from_is_err_and}
use Rattle.counter.specs.Steps.{told_refused, told_ask, told_count}
use Rattle.counter.proofs.answering.answer.Goals as goal

pub returns-in_err-typed : goal.returns-in_err-typed
returns-in_err-typed c =
    let p = err_from_is_err_and c.from_residual.result c.from_residual.ensures.1 in
    rw (p.1, p.2) (told_refused _ _ _ _ (sym c.parse.ensures ∙ c.in_err-typed.was))

pub returns-in-Ask : goal.returns-in-Ask
returns-in-Ask c = told_ask _ _ _ _ _ (sym c.parse.ensures ∙ c.in_ok-typed.was ∙ ap Ok c.in-Ask.is) c.ask.ensures

pub returns-in-Count : goal.returns-in-Count
returns-in-Count c = told_count _ _ _ _ (sym c.parse.ensures ∙ c.in_ok-typed.was ∙ ap Ok c.in-Count.is) c.count.ensures
