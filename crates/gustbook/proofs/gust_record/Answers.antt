use Rattle.gustbook.specs.Telling.{record_told_lem, told_so}
use Rattle.gustbook.proofs.gust_record.Goals as goal

pub returns : goal.returns
returns c = record_told_lem _ _ _ c.args.small.now c.args.place.now _ _ _ _ _ _ _ _ c.record-said.result c.small_of-s.ensures c.box_of.ensures c.narrow.ensures c.record-said.ensures c.put_small.ensures (told_so _ _ _ _ _ c.numbered.ensures c.tell.ensures)
