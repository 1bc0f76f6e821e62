use Rattle.std.proofs.Common.{◌≡◌, ◌++◌, map, take, drop}
use Rattle.sheet.specs.Sheet.{answered}
use Rattle.sheet.proofs.ask_sheet.Given as goal

-- the first rows are answered, the others are as they were
abbrev pub invariant-loop-row : goal.invariant-loop-row
invariant-loop-row l = l.rows ≡ map (answered l.t l.s) (take l.row-index l.fn.rows) ++ drop l.row-index l.fn.rows
