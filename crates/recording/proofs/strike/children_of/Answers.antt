use Rattle.std.proofs.Common.{◌≡◌, ◌<◌, ℕ, map, get_or, ap, sym, ◌∙◌, rules}
use Rattle.pages.specs.Layout.{page_entries, zero_entry}
use Rattle.wellformed.specs.WellFormed.{child_of}
use Rattle.recording.specs.StrikeSteps.{children_read}
use Rattle.recording.specs.TableSteps.{page_lying, page_lying_eight, page_lacking}
use Rattle.recording.proofs.strike.children_of.Goals as goal

pub returns-in_default : goal.returns-in_default
returns-in_default c = ap (λ x. map child_of x.entries) (page_lacking c.args.t.now c.args.p (sym c.get.ensures ∙ c.in_default.is))

pub returns : goal.returns
returns c =
    let same = page_lying c.args.t.now c.args.p c.in-Some.page (sym c.get.ensures ∙ c.in-Some.is) in
    let each : (i : ℕ) → i < page_entries → get_or c.from_fn.result i 0 ≡ (get_or c.in-Some.page.entries i zero_entry).child =
    (λ i h. let k : i < page_entries = h in let w = c.from_fn.ensures.items.at i 0 k in search rules) in
    children_read c.in-Some.page c.from_fn.result c.from_fn.ensures.items.long (page_lying_eight c.args.t.now c.args.p c.in-Some.page (sym c.get.ensures ∙ c.in-Some.is)) each ∙ ap (λ x. map child_of x.entries) same
