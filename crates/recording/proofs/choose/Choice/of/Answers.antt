use Rattle.recording.specs.ChooseSteps.{grown_is, choice_made}
use Rattle.recording.proofs.choose.Choice.of.Goals as goal

pub overflow_sub-result : goal.overflow_sub-result
overflow_sub-result c = grown_is c.args.b c.place-place.result _ _ c.size-size.ensures c.cover_size.ensures.0

pub returns : goal.returns
returns c = choice_made c.args.b c.args.entry.now c.place-place.result _ _ _ c.place-place.ensures c.size-size.ensures c.cover_size.ensures.0
