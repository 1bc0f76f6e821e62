use Rattle.std.proofs.Common.{◌≡◌, false, true, ap, sym, ◌∙◌, arith, drop_of_length-le}
use Rattle.lines.specs.Lines.{are_digits, number_from}
use Rattle.lines.proofs.Digits.{digit_at, tenfold}
use Rattle.lines.proofs.arguments.read_digits.Goals as goal

pub returns-then-not-is_ascii_digit : goal.returns-then-not-is_ascii_digit
returns-then-not-is_ascii_digit c =
    let at = digit_at c.args.word.now c.loop-b.b-index 0 c.loop-b-test.true in
    let none : are_digits c.args.word.now ≡ false = sym c.loop-b.invariant.digits ∙ at.0 ∙ rw (← c.is_ascii_digit.ensures.value, c.if-not-is_ascii_digit.true) in
    rw none

pub loop-b-preserved : goal.loop-b-preserved
loop-b-preserved c =
    let at = digit_at c.args.word.now c.loop-b.b-index c.loop-b.value c.loop-b-test.true in
    let digits = rw (← c.is_ascii_digit.ensures.value, c.if-not-is_ascii_digit.false) at at.0 in
    record {
      value = rw c.from.ensures (sym at.1 ∙ c.loop-b.invariant.value);
      digits = sym digits ∙ c.loop-b.invariant.digits;
      small = omega (arith, tenfold c.loop-b.b-index, c.from.ensures, c.if-not-is_ascii_digit.ensures.cases);
    }

pub returns : goal.returns
unfolding are_digits number_from
returns c =
    let past = drop_of_length-le c.args.word.now c.loop-b-test.false in
    let all : are_digits c.args.word.now ≡ true = sym c.loop-b.invariant.digits ∙ ap are_digits past in
    rw (all, ← c.loop-b.invariant.value, past)
