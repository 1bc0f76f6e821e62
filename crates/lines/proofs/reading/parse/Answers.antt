use Rattle.std.proofs.Common.{◌≡◌, sym, ◌∙◌, ap, Option, Some, None, arith}
use Rattle.std.proofs.lemmas.Result.{err_from_is_err_and}
use Rattle.std.specs.Option.{ok_or}
use Rattle.lines.specs.Lines.{line_refusal}
use Rattle.lines.specs.declared.reading.Line.{Line}
use Rattle.lines.specs.LineLaws.{long_refused, by_words}
use Rattle.lines.proofs.reading.parse.Goals as goal

pub returns-then-line-gt-LONGEST : goal.returns-then-line-gt-LONGEST
returns-then-line-gt-LONGEST c = sym (long_refused _ c.if-line-gt-LONGEST.true)

pub returns-in_err-call : goal.returns-in_err-call
returns-in_err-call c =
    let none : c.call.result ≡ None = grind arith in
    let p = err_from_is_err_and c.from_residual.result c.from_residual.ensures.1 in
    rw (by_words _ c.if-line-gt-LONGEST.false, ← c.of-words.ensures, ← c.call.ensures, none, p.1, p.2) (sym c.in_err-call.was ∙ c.ok_or.ensures.value ∙ ap (λ (o : Option Line). ok_or o line_refusal) none)

pub returns-in-None : goal.returns-in-None
returns-in-None c =
    let some : c.call.result ≡ Some c.in_ok-call.call = grind arith in
    rw (by_words _ c.if-line-gt-LONGEST.false, ← c.of-words.ensures, ← c.call.ensures, some, c.in-None.ensures.0)

pub returns-in-Some : goal.returns-in-Some
returns-in-Some c =
    let some : c.call.result ≡ Some c.in_ok-call.call = grind arith in
    rw (by_words _ c.if-line-gt-LONGEST.false, ← c.of-words.ensures, ← c.call.ensures, some, c.in-Some.ensures)
