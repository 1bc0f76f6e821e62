-- On any table, spoilt ones too, no more pages are opened than the table has.
use Prim.Native.Nat.{ℕ, zero, suc, ◌+◌, ◌≤◌}
use Rattle.std.specs.Prelude.{Bool, cond, ◌≡◌, refl, length}
use Rattle.std.proofs.Math.Bool.{true, false}
use mathlib.Core.List.{List, [], ◌∷◌}
use Rattle.std.proofs.Common.{arith}
use Rattle.ground.specs.Boxes.{legal}
use Rattle.ground.specs.declared.boxes.Box.{Box}
use Rattle.pages.specs.Layout.{pages_in, table_fits, pages_of}
use Rattle.pages.specs.LayoutLaws.{pages_length}
use Rattle.pages.specs.Summary.{in_use}
use Rattle.pages.specs.declared.Entry.{Entry}
use Rattle.pages.specs.declared.Page.{Page}
use Rattle.pages.specs.declared.Small.{Small}
use Rattle.wellformed.specs.WellFormed.{page}
use Rattle.asking.specs.Asking.{Search, refused, found, step, follow, search_entry, search_record, search_one, in_order, may_open, search_opened, search_page, least_root, search_book, answered, asked, says}
use Rattle.asking.specs.Turns.{may_opened}
use Rattle.std.specs.Prelude.{Err}
use Rattle.ground.specs.declared.refusals.Refusal.TheVariants as no
use Rattle.asking.specs.declared.search.Step.{Step}
use Rattle.asking.specs.declared.search.Step.TheVariants.{Pass, Raise, Open}

-- at most m pages have been opened
abbrev pub AtMost : ℕ → Search → Type 0
AtMost m refused = Unit {0}
AtMost m (found best opened) = opened ≤ m

module _ (m : ℕ) where
  in_order_most : (f : Entry → Search → Search) (es : List Entry) → ((e : Entry) (s : Search) → AtMost m s → AtMost m (f e s)) → (s : Search) → AtMost m s → AtMost m (in_order f es s)
  unfolding in_order
  in_order_most f [] h s w = w
  in_order_most f (e ∷ es) h s w = in_order_most f es h (f e s) (h e s w)

  follow_most : (lower : ℕ → ℕ → ℕ → Search) → ((p b o : ℕ) → o ≤ m → AtMost m (lower p b o)) → (s : Step) (best opened : ℕ) → opened ≤ m → AtMost m (follow lower s best opened)
  unfolding follow
  follow_most lower h Pass best opened w = w
  follow_most lower h (Raise gust) best opened w = w
  follow_most lower h (Open child) best opened w = h child best opened w

  one_most : (lower : ℕ → ℕ → ℕ → Search) → ((p b o : ℕ) → o ≤ m → AtMost m (lower p b o)) → (q : Box) (n : ℕ) (e : Entry) (s : Search) → AtMost m s → AtMost m (search_one lower q n e s)
  unfolding search_one search_record search_entry
  one_most lower h q zero e refused w = tt
  one_most lower h q zero e (found best opened) w = w
  one_most lower h q (suc n) e refused w = tt
  one_most lower h q (suc n) e (found best opened) w = follow_most lower h (step q e best) best opened w

  opened_most : (b : Bool) (f : Entry → Search → Search) (es : List Entry) (best opened : ℕ) → ((e : Entry) (s : Search) → AtMost m s → AtMost m (f e s)) → (b ≡ true → opened + 1 ≤ m) → AtMost m (search_opened b f es best opened)
  unfolding search_opened
  opened_most true f es best opened h w = in_order_most f es h (found best (opened + 1)) (w refl)
  opened_most false f es best opened h w = tt

page_most : (ps : List Page) (q : Box) (level least p best opened : ℕ) → opened ≤ length ps → AtMost (length ps) (search_page ps q level least p best opened)
unfolding search_page
page_most ps q zero least p best opened w = tt
page_most ps q (suc n) least p best opened w =
    opened_most (length ps) (may_open ps (suc n) least p opened) (search_one (search_page ps q n 1) q n) (in_use (page ps p)) best opened
    (one_most (length ps) (search_page ps q n 1) (λ c b o. page_most ps q n 1 c b o) q n)
    (λ e. let h = may_opened ps (suc n) least p opened e in omega arith)

answered_most : (m : ℕ) (s : Search) → AtMost m s → (says (answered s)).pages ≤ m
unfolding answered
answered_most m refused w = omega arith
answered_most m (found zero opened) w = w
answered_most m (found (suc gust) opened) w = w

-- never more than the table has
pub pages_most : (t : List ℕ) (s : Small) (q : Box) → (says (asked t s q)).pages ≤ pages_in t
unfolding asked search_book
pages_most t s q = by_table (table_fits t)
  where
    searched : (says (answered (search_page (pages_of t) q s.height (least_root s.height) s.root 0 0))).pages ≤ pages_in t
    searched =
        let l = pages_length t in
        let h = answered_most (length (pages_of t)) (search_page (pages_of t) q s.height (least_root s.height) s.root 0 0) (page_most (pages_of t) q s.height (least_root s.height) s.root 0 0 (omega arith)) in
        omega arith

    by_box : (b : Bool) → (says (cond b (answered (search_book (pages_of t) s q)) (Err no.Box))).pages ≤ pages_in t
    by_box true = searched
    by_box false = omega arith

    by_table : (b : Bool) → (says (cond b (cond (legal q) (answered (search_book (pages_of t) s q)) (Err no.Box)) (Err no.Table))).pages ≤ pages_in t
    by_table true = by_box (legal q)
    by_table false = omega arith
