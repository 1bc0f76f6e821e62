use Rattle.std.proofs.Common.{◌≡◌, ◌∙◌, ◌<◌, ℕ, get_or, length, sym, ap, rules, arith}
use Rattle.pages.specs.Layout.{page_entries, page_of, zero_entry}
use Rattle.pages.specs.LayoutLaws.{page_of_eight}
use Rattle.pages.specs.ViewLaws.{page_read_whole}
use Rattle.pages.specs.declared.Page.{Page}
use Rattle.pages.proofs.page_at.PageAt.read.Goals as goal

pub returns : goal.returns
unfolding page_of
returns c =
    let each : (i : ℕ) → i < length c.from_fn.result → get_or c.from_fn.result i zero_entry ≡ get_or c.args.self.now.entries i zero_entry =
    (λ i h. let k : i < page_entries = omega (arith, c.from_fn.ensures.items.long) in let w = c.from_fn.ensures.items.at i zero_entry k in search rules) in
    let long = c.from_fn.ensures.items.long ∙ sym (page_of_eight c.self.inside.words.now) ∙ ap (λ (x : Page). length x.entries) c.self.view_is in
    page_read_whole c.args.self.now _ _ _ (ap (λ (x : Page). x.level) c.self.view_is) (ap (λ (x : Page). x.count) c.self.view_is) long each
