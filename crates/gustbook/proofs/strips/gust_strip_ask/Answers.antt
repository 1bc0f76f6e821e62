use Rattle.gustbook.specs.StripBoundary.{strip_asked}
use Rattle.gustbook.specs.Telling.{told_so}
use Rattle.gustbook.proofs.strips.gust_strip_ask.Goals as goal

pub returns : goal.returns
returns c = strip_asked _ c.args.days.now _ _ _ _ c.days_of.ensures c.ask-said.ensures (told_so _ _ _ _ _ c.numbered.ensures c.tell.ensures)
