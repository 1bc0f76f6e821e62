use Rattle.std.proofs.Common.{rules, None, ◌≡◌, slice_get, ap, sym, ◌∙◌}
use Rattle.pages.specs.Layout.{pages_of}
use Rattle.pages.specs.Summary.{summary_of}
use Rattle.recording.specs.TableSteps.{page_lying, summary_out}
use Rattle.recording.proofs.table.summary.Goals as goal

pub returns-in_default : goal.returns-in_default
returns-in_default c =
    let past : slice_get (pages_of c.args.t.now) c.args.p ≡ None = ap (slice_get (pages_of c.args.t.now)) (sym c.from.ensures) ∙ sym c.get.ensures ∙ c.in_default.is in
    search (rules, summary_out)

pub returns : goal.returns
returns c =
    c.summary.ensures
    ∙ ap (summary_of c.args.p) (page_lying c.args.t.now c.args.p c.in-Some.page (ap (slice_get (pages_of c.args.t.now)) (sym c.from.ensures) ∙ sym c.get.ensures ∙ c.in-Some.is))
