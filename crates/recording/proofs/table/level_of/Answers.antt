use Rattle.std.proofs.Common.{slice_get, ap, sym, ◌∙◌}
use Rattle.pages.specs.Layout.{pages_of}
use Rattle.pages.specs.declared.Page.{Page}
use Rattle.recording.specs.TableSteps.{page_lying, page_lacking}
use Rattle.recording.proofs.table.level_of.Goals as goal

pub returns-in_default : goal.returns-in_default
returns-in_default c =
    ap (λ (x : Page). x.level) (page_lacking c.args.t.now c.args.p (ap (slice_get (pages_of c.args.t.now)) (sym c.from.ensures) ∙ sym c.get.ensures ∙ c.in_default.is))

pub returns : goal.returns
returns c =
    c.level.ensures
    ∙ ap (λ (x : Page). x.level) (page_lying c.args.t.now c.args.p c.in-Some.page (ap (slice_get (pages_of c.args.t.now)) (sym c.from.ensures) ∙ sym c.get.ensures ∙ c.in-Some.is))
