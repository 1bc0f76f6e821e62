use Rattle.gustbook.specs.StripBoundary.{strip_recorded}
use Rattle.gustbook.proofs.strips.gust_strip_record.Goals as goal

pub returns : goal.returns
returns c = rw c.number_of.ensures (strip_recorded _ c.args.days.now _ _ _ _ c.days_of.ensures c.narrow.ensures c.record-done.ensures)
