use Rattle.std.proofs.Common.{◌∙◌, true, ◌&&◌, leb, rules, tests}
use Rattle.std.specs.List.{zip}
use Rattle.std.proofs.lemmas.Iterator.{YieldsList-from_slice, YieldsList-from_zip}
use Rattle.std.proofs.lemmas.Iterator.Consumers.{fold_from_yields_List}
use Rattle.pages.specs.WordLaws.{every_carried}
use Rattle.sieve.proofs.each_at_least.Goals as goal

pub returns : goal.returns
returns c =
    fold_from_yields_List _ (λ b p. b && leb p.0 p.1) true _ c.fold.ensures.ran (YieldsList-from_zip (YieldsList-from_slice c.args.least.now cc) (YieldsList-from_slice c.args.words.now cc)) (λ a x b q. search (rules, tests))
    ∙ every_carried (λ p. leb p.0 p.1) true (zip c.args.least.now c.args.words.now)
