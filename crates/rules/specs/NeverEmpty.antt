-- No page below the root is left with no entry: what would strike all entries of a page strikes its exact entry above (`struck_above`), and the box that strikes below is the one that passed above, or a part of it.
use Rattle.std.specs.Prelude.{cond, List, [], ◌∷◌, ℕ, zero, suc, ◌-◌, ◌≤◌, length}
use Rattle.pages.specs.Summary.{in_use}
use Rattle.pages.specs.declared.Entry.{Entry}
use Rattle.pages.specs.declared.Page.{Page}
use Rattle.split.specs.SplitLaws.{Each}
use Rattle.wellformed.specs.WellFormed.{page}
use Rattle.rules.specs.FromWellFormed.{book}
use Rattle.rules.specs.IndexLaws.{chosen}
use Rattle.rules.specs.Scan.{Sought, scan}
use Rattle.rules.specs.Strike.{strike_page}

-- The entries that step 1 leaves at each page of the walk below page p, from the top down.
unfoldable pub left_below : ℕ → ℕ → List Page → ℕ → Sought → List (List Entry)
left_below zero v ps p s = []
left_below (suc n) v ps p s =
    let t = scan (suc n) v (in_use (page ps p)) s in
    let c = chosen ps p t in
    let qs = (strike_page n t.box v ps c).pages in
    cond t.is_covered [] (in_use (page qs c) ∷ left_below n v qs c t)

abbrev pub NoneEmpty : List (List Entry) → Type 0
NoneEmpty ess = Each (λ es. 1 ≤ length es) ess

-- The same below the root of a book: none if no entry is left at the root.
abbrev pub below_root : List Entry → List (List Entry) → List (List Entry)
below_root [] ess = []
below_root (e ∷ es) ess = ess

unfoldable pub left_below_root : ℕ → ℕ → List Page → ℕ → Sought → List (List Entry)
left_below_root n v ps r s = let qs = (strike_page n s.box v ps r).pages in below_root (in_use (page qs r)) (left_below n v qs r s)
