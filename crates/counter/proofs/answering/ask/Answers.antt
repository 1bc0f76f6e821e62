use Rattle.std.proofs.lemmas.Result.{err_from_is_err_and}
use Rattle.counter.specs.Counter.{gust_says, ask_says}
use Rattle.index.specs.WideCalls.{ask_wide}
use Rattle.counter.proofs.answering.ask.Goals as goal

pub returns-in_err-asked : goal.returns-in_err-asked
unfolding ask_says
returns-in_err-asked c =
    let a = c.args in
    let p = err_from_is_err_and c.from_residual.result c.from_residual.ensures.1 in
    rw (p.1, p.2, ← ask_wide a.t.now a.s a.typed, ← c.narrow.ensures, ← c.ask.ensures.0, c.in_err-asked.was)

pub returns-in-Some : goal.returns-in-Some
unfolding ask_says gust_says
returns-in-Some c =
    let a = c.args in
    rw (← ask_wide a.t.now a.s a.typed, ← c.narrow.ensures, ← c.ask.ensures.0, c.in_ok-asked.was, c.in-Some.is, c.from.ensures)

pub returns-in-None : goal.returns-in-None
unfolding ask_says gust_says
returns-in-None c =
    let a = c.args in
    rw (← ask_wide a.t.now a.s a.typed, ← c.narrow.ensures, ← c.ask.ensures.0, c.in_ok-asked.was, c.in-None.is)
