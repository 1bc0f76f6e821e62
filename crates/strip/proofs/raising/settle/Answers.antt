use native.Mathlib.Omega.{arith}
use Rattle.strip.specs.CallLaws.{settle_refused, settle_kept}
use Rattle.strip.proofs.raising.settle.Goals as goal

pub returns-then-size-gt-MOST : goal.returns-then-size-gt-MOST
returns-then-size-gt-MOST c = search settle_refused

pub returns : goal.returns
returns c = settle_kept _ _ _ c.args.strip.now c.requires.0 c.requires.1 _ _ (omega arith) c.copy_from_slice.ensures.after (omega arith)
