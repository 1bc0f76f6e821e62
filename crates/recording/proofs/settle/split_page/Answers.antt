use native.Mathlib.Omega.{arith}
use Rattle.recording.specs.TableSteps.{still_fits}
use Rattle.recording.specs.SettleSteps.{settled_split, settled_unsplit, free_number}
use Rattle.recording.specs.LowSteps.{lowest_after}
use Rattle.recording.proofs.settle.split_page.Goals as goal

pub returns-in_err-q : goal.returns-in_err-q
returns-in_err-q c =
    rw c.from_residual.ensures
    (settled_unsplit _ _ _ _ _ c.split-halves.result c.requires.1 c.requires.2 c.split-halves.ensures c.store.ensures
    (lowest_after _ _ _ _ _ _ _ _ _ c.split-halves.ensures c.store.ensures c.requires.3 c.begin_at.ensures c.in_err-q.ensures))

pub overflow_cast-result : goal.overflow_cast-result
overflow_cast-result c =
    omega (
      arith,
      free_number c.store.new.t c.in_ok-q.q (still_fits c.args.t.now c.store.new.t c.requires.0 c.store.ensures.same_length)
          (lowest_after _ _ _ _ _ _ _ _ _ c.split-halves.ensures c.store.ensures c.requires.3 c.begin_at.ensures c.in_ok-q.ensures),
    )

pub returns : goal.returns
returns c =
    settled_split _ _ _ _ _ _ _ c.split-halves.result c.requires.1 c.requires.2 c.split-halves.ensures c.store.ensures
    (lowest_after _ _ _ _ _ _ _ _ _ c.split-halves.ensures c.store.ensures c.requires.3 c.begin_at.ensures c.in_ok-q.ensures) c.store-2.ensures
