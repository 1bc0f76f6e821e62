use Rattle.std.proofs.Common.{sym, ◌∙◌}
use Rattle.pages.specs.LayoutLaws.{pages_length}
use Rattle.asking.specs.Turns.{may_not, opens_so}
use Rattle.asking.proofs.search.open.Goals as goal

pub returns-in_err-page-clause-finds : goal.returns-in_err-page-clause-finds
returns-in_err-page-clause-finds c = rw c.from_residual.ensures (may_not _ _ _ _ _ (sym c.in_err-page.ensures))

pub returns-then-not-may-clause-finds : goal.returns-then-not-may-clause-finds
returns-then-not-may-clause-finds c = opens_so _ _ _ _ _ _ _ _ _ (sym c.in_ok-page.ensures) (c.from.ensures ∙ c.level.ensures) c.count-entries.ensures (sym (pages_length _)) _ c.if-not-may.true

pub returns-clause-finds : goal.returns-clause-finds
returns-clause-finds c = opens_so _ _ _ _ _ _ _ _ _ (sym c.in_ok-page.ensures) (c.from.ensures ∙ c.level.ensures) c.count-entries.ensures (sym (pages_length _)) _ c.if-not-may.false
