use Rattle.std.proofs.Common.{drop-drop}
use Rattle.lines.proofs.words.Words.typed.Goals as goal

pub returns-clause-rest : goal.returns-clause-rest
returns-clause-rest c =
    let ws = c.args.self.now in
    rw (c.date-2.ensures.rest, c.date.ensures.rest, c.number-4.ensures.rest, c.number-3.ensures.rest, c.number-2.ensures.rest, c.number.ensures.rest, drop-drop 1 1 ws, drop-drop 1 2 ws, drop-drop 1 3 ws, drop-drop 1 4 ws, drop-drop 1 5 ws)
