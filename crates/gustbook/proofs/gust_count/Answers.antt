use Rattle.gustbook.specs.Telling.{count_told_lem, told_so}
use Rattle.gustbook.proofs.gust_count.Goals as goal

pub returns : goal.returns
returns c = count_told_lem _ c.args.small.now _ _ _ _ c.small_of.ensures c.count-said.ensures (told_so _ _ _ _ _ c.numbered.ensures c.tell.ensures)
