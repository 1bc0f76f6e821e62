use Rattle.std.proofs.Common.{◌≡◌, ◌++◌, length, drop}
use Rattle.lines.specs.Filling.{last_digits}
use Rattle.lines.proofs.text.fill_digits.Given as goal

abbrev pub invariant-loop-k : goal.invariant-loop-k
invariant-loop-k l = last_digits l.k l.rest ++ drop l.k l.out ≡ last_digits (length l.initial.out) l.n
