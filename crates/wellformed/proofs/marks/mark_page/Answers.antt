use Rattle.std.proofs.Common.{arith, ap}
use Rattle.std.proofs.Math.ListN.{set}
use Rattle.wellformed.specs.MarkLaws.{mark, mark_outside}
use Rattle.wellformed.proofs.marks.mark_page.Goals as goal

pub returns-then-c-marks : goal.returns-then-c-marks
unfolding mark
returns-then-c-marks c = ap (set c.args.marks.now c.args.c) c.one_more.ensures

pub returns-else-c-marks : goal.returns-else-c-marks
returns-else-c-marks c = mark_outside _ _ (omega arith)
