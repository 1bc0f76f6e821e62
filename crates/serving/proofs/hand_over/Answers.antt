use Rattle.serving.specs.ServingLaws.{handed_none, handed_more}
use Rattle.serving.proofs.hand_over.Goals as goal

pub loop-rest-init : goal.loop-rest-init
loop-rest-init g c = handed_none c.args.bytes.now

pub loop-rest-preserved : goal.loop-rest-preserved
loop-rest-preserved g c = handed_more _ _ c.loop-rest.invariant c.offer-took.result c.offer-took.ensures
