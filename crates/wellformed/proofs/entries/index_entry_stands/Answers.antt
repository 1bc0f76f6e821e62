use Rattle.std.proofs.Common.{◌∙◌, sym, ap}
use Rattle.pages.specs.Summary.{summary_of}
use Rattle.wellformed.specs.PassLaws.{exact_outside, exact_inside}
use Rattle.wellformed.proofs.entries.index_entry_stands.Goals as goal

pub returns-in_default : goal.returns-in_default
returns-in_default c = exact_outside _ c.args.level _ c.args.entry.now (c.from.ensures ∙ c.child-number.ensures) (sym c.get.ensures ∙ c.in_default.is)

pub returns : goal.returns
returns c =
    rw c.from-2.ensures
    (exact_inside _ c.args.level _ c.args.entry.now (c.from.ensures ∙ c.child-number.ensures) c.in-Some.child _ _ _ (sym c.get.ensures ∙ c.in-Some.is) (c.from-below.ensures ∙ c.level.ensures) (c.summary.ensures ∙ ap (λ n. summary_of n c.in-Some.child) (sym c.from.ensures)) c.is.ensures)
