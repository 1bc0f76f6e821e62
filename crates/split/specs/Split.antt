-- RULES.md, section 4: a page with nine entries is split. Only the entries' boxes choose, so the definitions speak of a list of boxes and of places in it.
use Rattle.std.specs.Prelude.{ℕ, zero, suc, ◌+◌, ◌-◌, Bool, true, false, cond, ◌&&◌, ◌||◌, List, [], ◌∷◌, ◌++◌, map, leb, ltb, eqb, length, get_or, take, drop, replicate}
use Rattle.ground.specs.Boxes.{join, size}
use Rattle.ground.specs.declared.boxes.Box.{Box}
use Rattle.pages.specs.Layout.{page_entries, zero_box, zero_entry}
use Rattle.pages.specs.declared.Entry.{Entry}
use Rattle.pages.specs.declared.Page.{Page}
use Rattle.split.specs.declared.filling.Halves.{Halves}

abbrev pub box_at : List Box → ℕ → Box
box_at bs i = get_or bs i zero_box

-- Places in order, n of them, from i on.
unfoldable pub places : ℕ → ℕ → List ℕ
places i zero = []
places i (suc n) = i ∷ places (suc i) n

-- Rule 4.53: the pairs of places, by first place, then second.
pub record Pair : Type 0 where
  pub first : ℕ
  pub second : ℕ

unfoldable pub pairs_with : ℕ → List ℕ → List Pair
pairs_with i [] = []
pairs_with i (j ∷ js) = record { first = i; second = j } ∷ pairs_with i js

unfoldable pub pairs : List ℕ → List Pair
pairs [] = []
pairs (i ∷ is) = pairs_with i is ++ pairs is

-- Rule 4.52: a pair wastes the size of its covering box minus both sizes. This may be negative, so two pairs are compared crosswise.
abbrev pub cover_size : List Box → Pair → ℕ
cover_size bs p = size (join (box_at bs p.first) (box_at bs p.second))

abbrev pub both_sizes : List Box → Pair → ℕ
both_sizes bs p = size (box_at bs p.first) + size (box_at bs p.second)

unfoldable pub wastes_more : List Box → Pair → Pair → Bool
wastes_more bs q p = ltb (cover_size bs p + both_sizes bs q) (cover_size bs q + both_sizes bs p)

-- Rules 4.52, 4.53: the seeds are the pair that wastes most; ties: the first pair.
unfoldable pub most_wasteful : List Box → Pair → List Pair → Pair
most_wasteful bs p [] = p
most_wasteful bs p (q ∷ qs) = most_wasteful bs (cond (wastes_more bs q p) q p) qs

unfoldable pub seeds : List Box → Pair
seeds bs = most_wasteful bs (record { first = 0; second = 1 }) (pairs (places 0 (length bs)))

-- Rules 4.51, 4.60: a group is the places of its entries in order of placing, and its covering box. It begins with one and takes others.
pub record Group : Type 0 where
  pub members : List ℕ
  pub cover : Box

abbrev pub begun : List Box → ℕ → Group
begun bs i = record { members = i ∷ []; cover = box_at bs i }

unfoldable pub takes : List Box → Group → ℕ → Group
takes bs g i = record { members = g.members ++ (i ∷ []); cover = join g.cover (box_at bs i) }

-- Rule 4.56: a group that gets all that are left. Nothing is compared with its covering box any more.
abbrev pub takes_all : Group → List ℕ → Group
takes_all g is = record { members = g.members ++ is; cover = g.cover }

-- Rules 4.51, 4.55: the two groups and the unplaced in their old order.
pub record Groups : Type 0 where
  pub first : Group
  pub second : Group
  pub unplaced : List ℕ

abbrev pub without : {A : Type 0} → ℕ → List A → List A
without k is = take k is ++ drop (suc k) is

-- Rule 4.54: each seed begins a group, that of the lower place the first.
unfoldable pub begin : List Box → Groups
begin bs =
    let p = seeds bs in
    record {
      first = begun bs p.first;
      second = begun bs p.second;
      unplaced = without p.first (without p.second (places 0 (length bs)));
    }

-- Rule 4.56: whether a group needs all of the unplaced to reach 3.
abbrev pub needs_all : Group → List ℕ → Bool
needs_all g is = leb (length g.members + length is) 3

-- Rules 4.58, 4.57: by how much a group's covering box grows in size to cover a box, and how much two growths differ.
unfoldable pub growth : Group → Box → ℕ
growth g b = size (join g.cover b) - size g.cover

abbrev pub difference : ℕ → ℕ → ℕ
difference a b = (a - b) + (b - a)

unfoldable pub growths_differ : Groups → Box → ℕ
growths_differ s b = difference (growth s.first b) (growth s.second b)

-- Rule 4.57: the entry whose two growths differ most, first on a tie: which of the unplaced, of 0 to n.
unfoldable pub first_most : (ℕ → ℕ) → ℕ → ℕ
first_most key zero = 0
first_most key (suc n) = let m = first_most key n in cond (ltb (key m) (key (suc n))) (suc n) m

unfoldable pub next : List Box → Groups → ℕ
next bs s = first_most (λ k. growths_differ s (box_at bs (get_or s.unplaced k 0))) (length s.unplaced - 1)

-- Rule 4.59: it goes to the group that grows less; ties: smaller covering size, fewer entries, first group. Whether that is the second:
abbrev pub less_or_tie : ℕ → ℕ → Bool → Bool
less_or_tie a b tie = ltb a b || (eqb a b && tie)

unfoldable pub second_takes : Groups → Box → Bool
second_takes s b =
    let g = s.first in
    let h = s.second in
    less_or_tie (growth h b) (growth g b) (less_or_tie (size h.cover) (size g.cover) (ltb (length h.members) (length g.members)))

abbrev pub given : Bool → List Box → Groups → ℕ → List ℕ → Groups
given true bs s i rest = record { first = s.first; second = takes bs s.second i; unplaced = rest }
given false bs s i rest = record { first = takes bs s.first i; second = s.second; unplaced = rest }

unfoldable pub place : List Box → Groups → Groups
place bs s =
    let k = next bs s in
    let i = get_or s.unplaced k 0 in
    given (second_takes s (box_at bs i)) bs s i (without k s.unplaced)

-- Rules 4.55, 4.56, 4.57: repeatedly, while there are unplaced, n of them: if a group needs all of them to reach 3, it gets all; otherwise one is placed.
abbrev pub all_to_first : Groups → Groups
all_to_first s = record { first = takes_all s.first s.unplaced; second = s.second; unplaced = [] }

abbrev pub all_to_second : Groups → Groups
all_to_second s = record { first = s.first; second = takes_all s.second s.unplaced; unplaced = [] }

unfoldable pub place_all : List Box → ℕ → Groups → Groups
place_all bs zero s = s
place_all bs (suc n) s =
    let onward = place_all bs n (place bs s) in
    cond (needs_all s.first s.unplaced) (all_to_first s) (cond (needs_all s.second s.unplaced) (all_to_second s) onward)

-- Rules 4.51, 4.54: the entries of both groups. The first was begun by the seed of lower place.
pub record TwoLists : Type 0 where
  pub first : List Entry
  pub second : List Entry

abbrev pub boxes_of : List Entry → List Box
boxes_of es = map (λ e. e.place) es

abbrev pub entries_at : List Entry → List ℕ → List Entry
entries_at es is = map (λ i. get_or es i zero_entry) is

unfoldable pub halves : List Entry → TwoLists
halves es =
    let bs = boxes_of es in
    let s = begin bs in
    let t = place_all bs (length s.unplaced) s in
    record { first = entries_at es t.first.members; second = entries_at es t.second.members }

-- Rules 2.12, 2.18: a page from its level and at most eight entries. Unused entries are all 0.
unfoldable pub page_from : ℕ → List Entry → Page
page_from level es = record { level = level; count = length es; entries = es ++ replicate (page_entries - length es) zero_entry }

-- Both lists as pages of one level.
abbrev pub pages_from : ℕ → TwoLists → Halves
pages_from level h = record { first = page_from level h.first; second = page_from level h.second }
