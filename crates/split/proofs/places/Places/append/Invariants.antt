use Rattle.std.proofs.Common.{◌≡◌, length}
use Rattle.split.specs.RoomLaws.{joined}
use Rattle.split.proofs.places.Places.append.Given as goal

abbrev pub invariant-loop-k : goal.invariant-loop-k
invariant-loop-k l = l.places ≡ joined l.initial.places (length l.fn.self) l.others-inside.at l.k
