-- A row in the code's order: the question narrowed, the book's own call, the answer filled in.
use Rattle.std.specs.Prelude.{Result, ℕ, List, ◌≡◌}
use Rattle.std.proofs.Common.{ap, ◌∙◌}
use Rattle.asking.specs.Asking.{asked}
use Rattle.asking.specs.declared.Asked.{Asked}
use Rattle.ground.specs.declared.refusals.Refusal.{Refusal}
use Rattle.ground.specs.declared.boxes.Box.{Box}
use Rattle.index.specs.WideCalls.{ask_wide}
use Rattle.pages.specs.declared.Small.{Small}
use Rattle.wide.specs.Wide.{narrowed}
use Rattle.sheet.specs.Sheet.{question, filled, answered}
use Rattle.sheet.specs.declared.row.Row.{Row}

pub row_answered : (t : List ℕ) (s : Small) (row r : Row) (q : Box) (said : Result Asked Refusal) → q ≡ narrowed (question row) → said ≡ asked t s q → r ≡ filled row said → r ≡ answered t s row
row_answered t s row r q said hq hs hr = hr ∙ ap (filled row) (hs ∙ ap (asked t s) hq ∙ ask_wide t s (question row))
