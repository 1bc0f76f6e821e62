-- RULES.md, section 4: the walk, from the root down and back, and what is done at the root.
-- A page with n levels under it is a leaf if n is 0. The walk reads a page from the pages as they are, strikes there, goes down one level, and comes back to read it again.
use Rattle.std.specs.Prelude.{Some, None, Option, ℕ, zero, suc, ◌+◌, ◌-◌, Bool, true, false, ◌&&◌, cond, List, [], ◌∷◌, ◌++◌, leb, ltb, eqb, length, get_or, set}
use Rattle.ground.specs.Boxes.{join, size}
use Rattle.ground.specs.declared.boxes.Box.{Box}
use Rattle.pages.specs.Layout.{page_entries, zero_box, zero_entry, free_page}
use Rattle.pages.specs.Free.{lowest_free}
use Rattle.pages.specs.Summary.{in_use, summary_of}
use Rattle.pages.specs.declared.Entry.{Entry}
use Rattle.pages.specs.declared.Page.{Page}
use Rattle.pages.specs.declared.Small.{Small}
use Rattle.split.specs.Split.{less_or_tie, halves, page_from}
use Rattle.wellformed.specs.WellFormed.{page}
use Rattle.rules.specs.Strike.{strike_page}
use Rattle.rules.specs.Scan.{Sought, handed_in, scan}

-- Rules 4.41, 4.42: the entry whose box grows least in size to cover b; ties: smaller size, then lower place. Which of the places 0 to n:
unfoldable pub growth : Box → Entry → ℕ
growth b e = size (join e.place b) - size e.place

unfoldable pub goes_before : Box → Entry → Entry → Bool
goes_before b e f = less_or_tie (growth b e) (growth b f) (ltb (size e.place) (size f.place))

unfoldable pub least_grown : Box → List Entry → ℕ → ℕ
least_grown b es zero = 0
least_grown b es (suc n) = let m = least_grown b es n in cond (goes_before b (get_or es (suc n) zero_entry) (get_or es m zero_entry)) (suc n) m

unfoldable pub choose : Box → List Entry → ℕ
choose b es = least_grown b es (length es - 1)

-- Rules 4.43, 1.2, 2.17: a record as a leaf has it, b with v.
abbrev pub leaf_entry : Box → ℕ → Entry
leaf_entry b v = record { place = b; gust = v; weakest = 0; child = 0; strongest = zero_box; union = zero_box }

-- What became of a page: it stands, or it was split, and this page took the second group.
pub data Became : Type 0 where
  stands : Became
  split : ℕ → Became

-- What a page's walk hands back: the pages, what became of its page, what was recorded, and how many leaf records were struck.
pub record Walked : Type 0 where
  pub pages : List Page
  pub became : Became
  pub sought : Sought
  pub struck : ℕ

-- A walk goes on from the pages, a page's number, what is sought, and the records struck so far.
abbrev pub Walk : Type 0
Walk = List Page → ℕ → Sought → ℕ → Walked

-- Settling a page: the pages, its number, and the level and entries that it is to have; what is sought and the records struck are handed on.
abbrev pub Settle : Type 0
Settle = List Page → ℕ → ℕ → List Entry → Sought → ℕ → Walked

-- Nine entries make a split: the first group stays in the page, the second takes the lowest free page. (Refusal 6 sees to it that there is one.)
abbrev pub into_page : Option ℕ → List Page → ℕ → List Entry → Sought → ℕ → Walked
into_page (Some q) ps level es s k = record { pages = set ps q (page_from level es); became = split q; sought = s; struck = k }
into_page None ps level es s k = record { pages = ps; became = stands; sought = s; struck = k }

-- Rules 4.61, 4.62, 4.64: the first group stays in the page, the second takes the lowest free page, one freed before among them.
unfoldable pub split_page : Settle
split_page ps p level es s k =
    let h = halves es in
    let qs = set ps p (page_from level h.first) in
    into_page (lowest_free qs) qs level h.second s k

abbrev pub settle_by : Bool → Settle
settle_by true ps p level es s k = record { pages = set ps p (page_from level es); became = stands; sought = s; struck = k }
settle_by false ps p level es s k = split_page ps p level es s k

-- Rule 4.51: nine entries make a split.
unfoldable pub settle : Settle
settle ps p level es s k = settle_by (leb (length es) page_entries) ps p level es s k

-- Rule 4.71: coming back to page p from the child at place i: its entry is made exact, before the page is split.
unfoldable pub exact_at : List Page → List Entry → ℕ → List Entry
exact_at ps es i = let c = (get_or es i zero_entry).child in set es i (summary_of c (page ps c))

-- Rule 4.62: a child that was split has its second group appended.
abbrev pub come_back_by : Became → List Page → ℕ → ℕ → List Entry → ℕ → Sought → ℕ → Walked
come_back_by stands ps p level es i s k = settle ps p level (exact_at ps es i) s k
come_back_by (split q) ps p level es i s k = settle ps p level (exact_at ps es i ++ (summary_of q (page ps q) ∷ [])) s k

unfoldable pub come_back : ℕ → ℕ → Walked → Walked
come_back p i w = let x = page w.pages p in come_back_by w.became w.pages p x.level (in_use x) i w.sought w.struck

-- Rule 4.43: with b as cut, at a leaf append b with v.
unfoldable pub append : ℕ → Walk
append v ps p s k = let x = page ps p in settle ps p x.level (in_use x ++ (leaf_entry s.box v ∷ [])) s k

-- Rules 4.41, 4.1: at an index page go to the chosen child, with n levels under it: step 1 there, then the walk one level lower.
unfoldable pub go_down : ℕ → ℕ → Walk → Walk
go_down n v lower ps p s k =
    let es = in_use (page ps p) in
    let i = choose s.box es in
    let c = (get_or es i zero_entry).child in
    let x = strike_page n s.box v ps c in
    come_back p i (lower x.pages c s (k + x.records))

-- Rules 4.34, 4.37: Covered ends the walk; the strikes stand.
abbrev pub unless_covered : Bool → Walk → Walk
unless_covered true next ps p s k = record { pages = ps; became = stands; sought = s; struck = k }
unless_covered false next ps p s k = next ps p s k

-- Step 3 at page p, whose strikes are done; then step 4.
unfoldable pub go_on : ℕ → ℕ → Walk → Walk
go_on n v next ps p s k = let t = scan n v (in_use (page ps p)) s in unless_covered t.is_covered next ps p t k

-- Rule 4.1: steps 3 and 4 at a page, and at each page below it that the record comes to.
unfoldable pub walk_down : ℕ → ℕ → Walk
walk_down zero v ps p s k = go_on zero v (append v) ps p s k
walk_down (suc n) v ps p s k = go_on (suc n) v (go_down n v (walk_down n v)) ps p s k

-- Rules 4.21, 4.22, 4.23: step 2, of the entries left at the root r: an index root left with no entry becomes, in its place, an empty leaf root of height 1; a leaf root may stand empty.
abbrev pub leaf_if_empty : List Entry → ℕ → ℕ → Walk
leaf_if_empty [] n v ps r s k = walk_down zero v (set ps r (page_from 1 [])) r s k
leaf_if_empty (e ∷ es) n v ps r s k = walk_down n v ps r s k

-- Rule 4.1: from the root r, with n levels under it: step 1, step 2, and on.
unfoldable pub from_root : ℕ → ℕ → List Page → ℕ → Sought → Walked
from_root n v ps r s =
    let x = strike_page n s.box v ps r in
    leaf_if_empty (in_use (page x.pages r)) n v x.pages r s x.records

-- The pages and the root.
pub record Rooted : Type 0 where
  pub pages : List Page
  pub root : ℕ

-- Rule 4.63: a split root gets a new root in the lowest free page, with the old page's entry first.
abbrev pub new_root_at : Option ℕ → List Page → ℕ → ℕ → Rooted
new_root_at (Some t) ps r q = record { pages = set ps t (page_from ((page ps r).level + 1) (summary_of r (page ps r) ∷ summary_of q (page ps q) ∷ [])); root = t }
new_root_at None ps r q = record { pages = ps; root = r }

abbrev pub put_root_right : Became → List Page → ℕ → Rooted
put_root_right stands ps r = record { pages = ps; root = r }
put_root_right (split q) ps r = new_root_at (lowest_free ps) ps r q

-- Rule 4.72: last, while the root is an index page with one entry, its child becomes the root and the old root is freed; at most n times.
abbrev pub one_entry : Page → Bool
one_entry x = leb 2 x.level && eqb x.count 1

abbrev pub collapse_by : Bool → (List Page → ℕ → Rooted) → List Page → ℕ → Rooted
collapse_by true onward ps r = onward (set ps r free_page) (get_or (page ps r).entries 0 zero_entry).child
collapse_by false onward ps r = record { pages = ps; root = r }

unfoldable pub collapse : ℕ → List Page → ℕ → Rooted
collapse zero ps r = record { pages = ps; root = r }
collapse (suc n) ps r = collapse_by (one_entry (page ps r)) (collapse n) ps r

-- Rule 4.81: the answer is Kept, Cut (kept after a cut) or Covered, with the struck count.
pub data Outcome : Type 0 where
  Kept Cut Covered : Outcome

-- Rule 4.81: Covered after a cut too.
abbrev pub outcome_of : Sought → Outcome
outcome_of s = cond s.is_covered Covered (cond s.is_cut Cut Kept)

-- Rule 4.82.
pub record Answer : Type 0 where
  pub outcome : Outcome
  pub struck : ℕ

pub record Recorded : Type 0 where
  pub answer : Answer
  pub pages : List Page
  pub small : Small

-- Rules 4.83, 4.73: accepted rises by one, struck by the count, covered by one for Covered. The height is the root page's level.
abbrev pub small_after : Small → Walked → Rooted → Small
small_after s w r =
    record {
      root = r.root;
      height = (page r.pages r.root).level;
      accepted = s.accepted + 1;
      struck = s.struck + w.struck;
      covered = s.covered + cond w.sought.is_covered 1 0;
    }

-- After the walk w the root is put right and collapses, and the record is counted.
abbrev pub put_right : Small → Walked → Recorded
put_right s w =
    let t = put_root_right w.became w.pages s.root in
    let r = collapse s.height t.pages t.root in
    record { answer = record { outcome = outcome_of w.sought; struck = w.struck }; pages = r.pages; small = small_after s w r }

-- Rule 4.1: recording box b with gust v on a sound book.
unfoldable pub recorded : List Page → Small → Box → ℕ → Recorded
recorded ps s b v = put_right s (from_root (s.height - 1) v ps s.root (handed_in b))
