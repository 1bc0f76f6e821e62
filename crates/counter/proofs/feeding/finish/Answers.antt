use Rattle.std.proofs.lemmas.Bool.{false≢true}
use Rattle.counter.specs.Feeding.{finished_none, finished_some}
use Rattle.counter.proofs.feeding.finish.Goals as goal

pub returns-then-not-is_empty : goal.returns-then-not-is_empty
returns-then-not-is_empty c = finished_some _ _ _ c.requires _ _ _ (λ e. false≢true (c.if-not-is_empty.ensures.1 e)) c.end_kept.ensures

pub returns-else-not-is_empty : goal.returns-else-not-is_empty
returns-else-not-is_empty c = finished_none _ _ _ c.requires (c.is_empty.ensures.0 c.if-not-is_empty.false)
