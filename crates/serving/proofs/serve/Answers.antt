use Rattle.counter.specs.Feeding.{opened_ready}
use Rattle.serving.specs.ServingLaws.{ran}
use Rattle.serving.proofs.serve.Goals as goal

pub serve_all-ending-requires : goal.serve_all-ending-requires
serve_all-ending-requires g c = opened_ready _ _ _ _ _ c.requires.fits c.requires.room c.open-s.ensures

pub returns : goal.returns
returns g c = ran _ c.args.input.now _ _ _ c.requires c.open-s.ensures _ _ _ c.serve_all-ending.result c.serve_all-ending.ensures _ _ _ c.finish.ensures c.hand_last.result c.hand_last.ensures
