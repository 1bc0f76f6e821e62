use Rattle.std.proofs.Common.{◌≡◌, ◌≤◌, ◌^◌, ◌+◌, drop}
use Rattle.lines.specs.Lines.{are_digits, number_from}
use Rattle.lines.proofs.arguments.read_digits.Given as goal

abbrev pub invariant-loop-b : goal.invariant-loop-b
invariant-loop-b l =
    record {
      value : number_from l.value (drop l.b-index l.word) ≡ number_from 0 l.word;
      digits : are_digits (drop l.b-index l.word) ≡ are_digits l.word;
      small : l.value + 1 ≤ 10 ^ l.b-index;
    }
