use Rattle.std.proofs.Common.{◌≡◌, rules, sym, ◌∙◌}
use Rattle.lines.specs.Lines.{text, command_of}
use Rattle.lines.proofs.Commands.{add_no_box, add_no_gust, add_read, ask_no_box, ask_read, count_read, no_command}
use Rattle.lines.proofs.reading.call.Goals as goal

pub returns-in_err-command : goal.returns-in_err-command
unfolding command_of
returns-in_err-command c = rw (c.from_residual.ensures, c.in_err-command.ensures.0)

pub returns-in_err-typed : goal.returns-in_err-typed
returns-in_err-typed c =
    let is : c.in_ok-command.command.now ≡ text "add" = search rules in
    rw c.from_residual-in_err-typed.ensures (add_no_box _ _ _ c.in_ok-command.ensures is (sym c.in_err-typed.ensures.value))

pub returns-in_err-gust : goal.returns-in_err-gust
returns-in_err-gust c =
    let is : c.in_ok-command.command.now ≡ text "add" = search rules in
    let none = rw c.in_ok-typed.ensures.rest at c.in_err-gust.ensures.value in
    rw c.from_residual-in_err-gust.ensures (add_no_gust _ _ _ c.in_ok-command.ensures is _ (sym c.in_ok-typed.ensures.value) (sym none))

pub returns-then-eq : goal.returns-then-eq
returns-then-eq c =
    let is : c.in_ok-command.command.now ≡ text "add" = search rules in
    let gust = rw c.in_ok-typed.ensures.rest at c.in_ok-gust.ensures.value in
    rw (c.in_ok-gust.ensures.rest, c.in_ok-typed.ensures.rest) (add_read _ _ _ c.in_ok-command.ensures is _ _ (sym c.in_ok-typed.ensures.value) (sym gust))

pub returns-in_err-typed-2 : goal.returns-in_err-typed-2
returns-in_err-typed-2 c =
    let is : c.in_ok-command.command.now ≡ text "ask" = search rules in
    rw c.from_residual-in_err-typed-2.ensures (ask_no_box _ _ _ c.in_ok-command.ensures is (sym c.in_err-typed-2.ensures.value))

pub returns-then-eq-2 : goal.returns-then-eq-2
returns-then-eq-2 c =
    let is : c.in_ok-command.command.now ≡ text "ask" = search rules in
    rw c.in_ok-typed-2.ensures.rest (ask_read _ _ _ c.in_ok-command.ensures is _ (sym c.in_ok-typed-2.ensures.value))

pub returns-then-eq-3 : goal.returns-then-eq-3
returns-then-eq-3 c =
    let is : c.in_ok-command.command.now ≡ text "count" = search rules in
    count_read _ _ _ c.in_ok-command.ensures is

pub returns : goal.returns
returns c = no_command _ _ _ c.in_ok-command.ensures (sym c.eq.ensures ∙ c.if-eq.false) (sym c.eq-2.ensures ∙ c.if-eq-2.false) (sym c.eq-3.ensures ∙ c.if-eq-3.false)
