-- The rules once had a second half of step 2: a page below the root left with no entry was freed and its entry taken from its parent, and the record started again at the root.
-- Here it stands for the last time; that every page, the small record and the answer are the same without it is `same_without`, in proofs/.
use Rattle.std.specs.Prelude.{Bool, true, false, List, [], ◌∷◌, ℕ, zero, suc, ◌+◌, ◌-◌, length, get_or, set}
use Rattle.ground.specs.declared.boxes.Box.{Box}
use Rattle.pages.specs.Layout.{zero_entry, free_page}
use Rattle.pages.specs.Summary.{in_use}
use Rattle.pages.specs.declared.Entry.{Entry}
use Rattle.pages.specs.declared.Page.{Page}
use Rattle.pages.specs.declared.Small.{Small}
use Rattle.split.specs.Split.{page_from, without}
use Rattle.wellformed.specs.WellFormed.{page}
use Rattle.rules.specs.Recording.{Became.stands, choose, Walked, come_back, walk_down, exact_at, Recorded, put_right}
use Rattle.rules.specs.Scan.{Sought, handed_in, scan}
use Rattle.rules.specs.Strike.{strike_page}

-- What a walk handed back: as now, or that the record starts again at the root, with these pages, b as already cut, and the records struck so far.
pub data OldWalked : Type 0 where
  done : Walked → OldWalked
  again : List Page → Sought → ℕ → OldWalked

abbrev pub OldWalk : Type 0
OldWalk = List Page → ℕ → Sought → ℕ → OldWalked

-- Coming back to page p from the child at place i: its entry is made exact also where the record starts again.
abbrev pub old_back : ℕ → ℕ → OldWalked → OldWalked
old_back p i (done w) = done (come_back p i w)
old_back p i (again ps s k) = let x = page ps p in again (set ps p (page_from x.level (exact_at ps (in_use x) i))) s k

-- The second half of step 2, of the entries left at the child c at place i of page p: with none, c is freed, its entry taken from p, and the record starts again.
abbrev pub old_rule_two : List Entry → OldWalk → ℕ → ℕ → ℕ → List Page → Sought → ℕ → OldWalked
old_rule_two [] lower p i c ps s k = let x = page ps p in again (set (set ps c free_page) p (page_from x.level (without i (in_use x)))) s k
old_rule_two (e ∷ es) lower p i c ps s k = old_back p i (lower ps c s k)

unfoldable pub old_down : ℕ → ℕ → OldWalk → OldWalk
old_down n v lower ps p s k =
    let es = in_use (page ps p) in
    let i = choose s.box es in
    let c = (get_or es i zero_entry).child in
    let x = strike_page n s.box v ps c in
    old_rule_two (in_use (page x.pages c)) lower p i c x.pages s (k + x.records)

abbrev pub old_unless_covered : Bool → OldWalk → OldWalk
old_unless_covered true next ps p s k = done (record { pages = ps; became = stands; sought = s; struck = k })
old_unless_covered false next ps p s k = next ps p s k

unfoldable pub old_walk : ℕ → ℕ → OldWalk
old_walk zero v ps p s k = done (walk_down zero v ps p s k)
old_walk (suc n) v ps p s k = let t = scan (suc n) v (in_use (page ps p)) s in old_unless_covered t.is_covered (old_down n v (old_walk n v)) ps p t k

-- The first half is as now. The record started again at most `fuel` times: each time a page was freed.
abbrev pub old_leaf_if_empty : List Entry → ℕ → ℕ → OldWalk
old_leaf_if_empty [] n v ps r s k = done (walk_down zero v (set ps r (page_from 1 [])) r s k)
old_leaf_if_empty (e ∷ es) n v ps r s k = old_walk n v ps r s k

abbrev pub start_again : OldWalked → (List Page → Sought → ℕ → Walked) → Walked
start_again (done w) onward = w
start_again (again ps s k) onward = onward ps s k

unfoldable pub old_from_root : ℕ → ℕ → ℕ → ℕ → List Page → Sought → ℕ → Walked
old_from_root zero n v r ps s k = record { pages = ps; became = stands; sought = s; struck = k }
old_from_root (suc fuel) n v r ps s k =
    let x = strike_page n s.box v ps r in
    start_again (old_leaf_if_empty (in_use (page x.pages r)) n v x.pages r s (k + x.records)) (old_from_root fuel n v r)

unfoldable pub old_recorded : List Page → Small → Box → ℕ → Recorded
old_recorded ps s b v = put_right s (old_from_root (length ps) (s.height - 1) v s.root ps (handed_in b) 0)
