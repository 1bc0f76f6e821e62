use Rattle.gustbook.specs.Telling.{ask_told_lem, told_so}
use Rattle.gustbook.proofs.gust_ask.Goals as goal

pub returns : goal.returns
returns c = ask_told_lem _ c.args.small.now c.args.place.now _ _ _ _ _ c.small_of.ensures c.box_of.ensures c.ask-said.ensures.0 (told_so _ _ _ _ _ c.numbered.ensures c.tell.ensures)
