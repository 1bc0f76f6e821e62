use Rattle.std.proofs.Common.{◌∙◌, true, ◌&&◌, eqb, rules, tests}
use Rattle.std.proofs.lemmas.Iterator.{YieldsList-from_slice}
use Rattle.std.proofs.lemmas.Iterator.Consumers.{fold_from_yields_List}
use Rattle.pages.specs.WordLaws.{every_carried}
use Rattle.pages.proofs.words.are_zero.Goals as goal

pub returns : goal.returns
returns c =
    fold_from_yields_List _ (λ b x. b && eqb x 0) true _ c.fold.ensures.ran (YieldsList-from_slice c.args.words.now cc) (λ a x b q. search (rules, tests))
    ∙ every_carried (λ x. eqb x 0) true c.args.words.now
