-- RULES.md, section 4, step 1: the strike.
use Rattle.std.specs.Prelude.{ℕ, zero, suc, ◌+◌, Bool, true, false, ◌&&◌, not, List, [], ◌∷◌, leb, set}
use Rattle.ground.specs.Boxes.{covers}
use Rattle.ground.specs.declared.boxes.Box.{Box}
use Rattle.pages.specs.Layout.{free_page}
use Rattle.pages.specs.Summary.{in_use}
use Rattle.pages.specs.declared.Entry.{Entry}
use Rattle.pages.specs.declared.Page.{Page}
use Rattle.split.specs.Split.{page_from}
use Rattle.wellformed.specs.WellFormed.{page}

-- Rule 4.11: an entry is struck if b covers its box and its gust (index: strongest gust) is at most v.
abbrev pub is_struck : Box → ℕ → Entry → Bool
is_struck b v e = covers b e.place && leb e.gust v

-- The entries that pass a test, in order.
abbrev pub cons_if : Bool → Entry → List Entry → List Entry
cons_if true e es = e ∷ es
cons_if false e es = es

unfoldable pub select : (Entry → Bool) → List Entry → List Entry
select f [] = []
select f (e ∷ es) = cons_if (f e) e (select f es)

abbrev pub struck_of : Box → ℕ → List Entry → List Entry
struck_of b v es = select (is_struck b v) es

-- Rule 4.12: the rest close up in order.
abbrev pub rest : Box → ℕ → List Entry → List Entry
rest b v es = select (λ e. not (is_struck b v e)) es

-- Rule 4.14: the pages after a strike, and how many leaf records it struck.
pub record Struck : Type 0 where
  pub pages : List Page
  pub records : ℕ

unfoldable pub strike_all : (List Page → Entry → Struck) → List Page → List Entry → Struck
strike_all one ps [] = record { pages = ps; records = 0 }
strike_all one ps (e ∷ es) =
    let s = one ps e in
    let t = strike_all one s.pages es in
    record { pages = t.pages; records = s.records + t.records }

-- Rules 4.13, 4.14: an entry of a leaf, with no levels under it, is one record. A struck index entry frees all pages under it, n levels of them: those under its child's entries, then the child.
unfoldable pub strike_one : ℕ → List Page → Entry → Struck
strike_one zero ps e = record { pages = ps; records = 1 }
strike_one (suc n) ps e =
    let s = strike_all (strike_one n) ps (in_use (page ps e.child)) in
    record { pages = set s.pages e.child free_page; records = s.records }

-- Of a page with n levels under it, the struck entries one after another.
unfoldable pub strike : ℕ → Box → ℕ → List Page → List Entry → Struck
strike n b v ps es = strike_all (strike_one n) ps (struck_of b v es)

-- Step 1 at page p, with n levels under it: its struck entries one after another, and the rest of it closes up.
abbrev pub strike_page : ℕ → Box → ℕ → List Page → ℕ → Struck
strike_page n b v ps p =
    let x = page ps p in
    let s = strike n b v ps (in_use x) in
    record { pages = set s.pages p (page_from x.level (rest b v (in_use x))); records = s.records }
