use Rattle.std.proofs.Common.{◌≡◌, ◌<◌, ◌++◌, ◌+◌, ℕ, List, arith, length, get_or, map, take, drop}
use Rattle.std.proofs.Math.ListN.{set}
use Rattle.std.proofs.lemmas.List.{get_or_default}
use Rattle.std.proofs.lemmas.List.Edits.{map_over_more}
use Rattle.sheet.specs.declared.row.Row.{Row}
use Rattle.sheet.proofs.ask_sheet.Goals as goal

-- row i is answered
turn : (f : Row → Row) (xs rows : List Row) (i : ℕ) (d r : Row) → i < length rows → length rows ≡ length xs → rows ≡ map f (take i xs) ++ drop i xs → r ≡ f (get_or rows i d) → set rows i r ≡ map f (take (i + 1) xs) ++ drop (i + 1) xs
turn f xs rows i d r l n h e = rw e (map_over_more f xs rows i (get_or rows i d) (omega arith) h (get_or_default rows i d (get_or rows i d) l))

pub loop-row-preserved : goal.loop-row-preserved
loop-row-preserved c = turn _ _ _ _ _ _ (omega arith) c.loop-row.auto.rows c.loop-row.invariant c.answer_row.ensures
