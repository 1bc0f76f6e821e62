-- The answer law, as a clerk sees it: what is asked after a record is what was asked before, raised to the new gust where the question touches the box as handed in.
use Rattle.std.specs.Prelude.{List, ℕ}
use Rattle.asking.specs.Asking.{asked, says}
use Rattle.ground.specs.declared.boxes.Box.{Box}
use Rattle.pages.specs.declared.Small.{Small}

-- the best answer to a question: 0 is nothing, and else the gust is one less
abbrev pub best_answer : List ℕ → Small → Box → ℕ
best_answer t s q = (says (asked t s q)).best
