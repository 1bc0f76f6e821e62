use Rattle.std.proofs.Common.{rules, ◌≡◌, ap}
use Rattle.serving.specs.Serving.{all_handed}
use Rattle.serving.specs.declared.Ending.TheVariants.{NotWritten}
use Rattle.serving.specs.ServingLaws.{last_kept_back}
use Rattle.serving.proofs.hand_last.Goals as goal

pub returns-then-eq : goal.returns-then-eq
returns-then-eq g c =
    let is : c.args.ending ≡ NotWritten = search rules in
    last_kept_back _ _ (ap all_handed is)
