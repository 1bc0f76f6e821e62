-- Laws for the code's proofs, over plain lists and numbers.
use Rattle.std.specs.Prelude.{Bool, ltb, drop, set}
use Rattle.split.specs.SplitLaws.{next_within, length_without, length_place, Members, members_of_nine}
use Rattle.split.specs.declared.filling.Halves.{Halves}
use Rattle.std.proofs.Math.Bool.{true, false, cond}
use mathlib.Core.List.{List, [], ◌∷◌, ◌++◌, map}
use Rattle.std.proofs.Common.{◌∙◌, subst, add-one, length-append, length-drop, take-take}
use Rattle.std.proofs.Math.Path.{◌≡◌, refl, sym, ap, ap₂}
use Prim.Native.Nat.{ℕ, zero, suc, ◌+◌, ◌-◌, ◌≤◌, ◌<◌}
use native.Mathlib.Omega.{arith}
use Rattle.std.proofs.Math.ListN.{length, get_or, take, length-map, replicate}
use Rattle.std.proofs.Math.Seq.{length-take-le}
use Rattle.std.specs.List.{copy_within}
use Rattle.std.proofs.lemmas.List.{drop-take, drop-replicate, get_or-map}
use Rattle.ground.specs.BoxLaws.{size_grows, join_covers_first, join_covers_second}
use Rattle.std.proofs.lemmas.List.Edits.{take-paste, paste_more, paste_all}
use lib.Seq.{paste}
use Rattle.pages.specs.declared.Entry.{Entry}
use Rattle.pages.specs.declared.Page.{Page}
use Rattle.ground.specs.Boxes.{join, size}
use Rattle.ground.specs.declared.boxes.Box.{Box}
use Rattle.pages.specs.Layout as layout
use Rattle.split.specs.Split.{entries_at, page_from, pages_from, boxes_of, halves, box_at, without, first_most, next, seeds, begun, begin, Group, takes, given, place, needs_all, all_to_first, all_to_second, place_all, Groups, growth, difference, growths_differ, second_takes, Pair, places, pairs_with, pairs, wastes_more, most_wasteful}
use Rattle.split.specs.Working.{pair, pair_of, Weighed, choice_of, chosen, to_second, Onward}
use Rattle.split.specs.declared.placing.Choice.{Choice}
use Rattle.split.specs.declared.seeds.Seeds.{Seeds}

-- what closing up leaves: the first so many without one of them
pub closed_up : {A : Type 0} (xs : List A) (at count : ℕ) → at < count → count ≤ length xs → take (count - 1) (copy_within xs (at + 1) count at) ≡ without at (take count xs)
closed_up {A = A} xs at count h k =
    let m = count - (at + 1) in
    let n : count - 1 ≡ at + (count - (at + 1)) = omega arith in
    let o : count ≡ at + 1 + (count - (at + 1)) = omega arith in
    let front : take at (take count xs) ≡ take at xs = take-take at count xs (omega arith) in
    let back : drop (at + 1) (take count xs) ≡ take (count - (at + 1)) (drop (at + 1) xs) = ap (λ (j : ℕ). drop (at + 1) (take j xs)) o ∙ drop-take (at + 1) m xs in
    ap (λ (j : ℕ). take j (copy_within xs (at + 1) count at)) n
    ∙ take-paste xs at (drop (at + 1) xs) m (omega arith) (simp length-drop (omega arith))
    ∙ ap₂ (λ (x y : List A). x ++ y) (sym front) (sym back ∙ ap (λ (j : ℕ). drop j (take count xs)) (add-one at))

-- the size of each of some boxes
pub size_at : (bs : List Box) (ns : List ℕ) (i : ℕ) → i < length bs → ns ≡ map (λ b. size b) bs → get_or ns i 0 ≡ size (box_at bs i)
size_at bs ns i h e = ap (λ (l : List ℕ). get_or l i 0) e ∙ get_or-map (λ b. size b) bs i layout.zero_box 0 h

-- neither of two is larger than the box that covers both
pub both_within : (a b : Box) → size a + size b ≤ size (join a b) + size (join a b)
both_within a b = omega (arith, size_grows (join a b) a (join_covers_first a b), size_grows (join a b) b (join_covers_second a b))

-- how many a list has that is the first so many of an array
pub counted : {A : Type 0} (xs now : List A) (n : ℕ) → take n xs ≡ now → n ≤ length xs → length now ≡ n
counted xs now n e h = sym (ap length e) ∙ length-take-le n xs h

-- the worse of two pairs
abbrev pub worse_of : Seeds → Seeds → Seeds
worse_of p q = cond (ltb (p.cover + q.both) (q.cover + p.both)) q p

pub worse_kept : (bs : List Box) (p q r : Seeds) → r ≡ worse_of p q → Weighed bs p → Weighed bs q → Weighed bs r
worse_kept bs p q r e h k = subst (Weighed bs) (sym e) (either (ltb (p.cover + q.both) (q.cover + p.both)))
  where
    either : (t : Bool) → Weighed bs (cond t q p)
    either true = k
    either false = h

pair_chosen : (t : Bool) (p q r : Seeds) → r ≡ cond t q p → pair_of r ≡ cond t (pair_of q) (pair_of p)
pair_chosen true p q r e = ap pair_of e
pair_chosen false p q r e = ap pair_of e

pub worse_step : (bs : List Box) (first second : ℕ) (p q r : Seeds) → second < 9 → Weighed bs p → Weighed bs q → pair_of q ≡ pair first second
    → r ≡ cond (ltb (p.cover + q.both) (q.cover + p.both)) q p
    → most_wasteful bs (pair_of r) (pairs_with first (places (second + 1) (9 - (second + 1)))) ≡ most_wasteful bs (pair_of p) (pairs_with first (places second (9 - second)))
unfolding most_wasteful pairs_with places wastes_more
worse_step bs first second p q r h wp wq pq e =
    let n : 9 - second ≡ suc (9 - (second + 1)) = omega arith in
    let t : ltb (p.cover + q.both) (q.cover + p.both) ≡ wastes_more bs (pair_of q) (pair_of p) = rw (wp.cover, wp.both, wq.cover, wq.both) in
    let at = pair first second in
    let u : ltb (p.cover + q.both) (q.cover + p.both) ≡ wastes_more bs at (pair_of p) = t ∙ ap (λ (x : Pair). wastes_more bs x (pair_of p)) pq in
    let c = pair_chosen (wastes_more bs at (pair_of p)) p q r (e ∙ ap (λ (b : Bool). cond b q p) u) in
    rw (n, add-one second, c, pq) refl

pub most_append : (bs : List Box) (p : Pair) (qs rs : List Pair) → most_wasteful bs p (qs ++ rs) ≡ most_wasteful bs (most_wasteful bs p qs) rs
unfolding most_wasteful
most_append bs p [] rs = refl
most_append bs p (q ∷ qs) rs = most_append bs (cond (wastes_more bs q p) q p) qs rs

pub first_step : (bs : List Box) (first : ℕ) (p r : Pair) → first < 9 → r ≡ most_wasteful bs p (pairs_with first (places (first + 1) (9 - (first + 1))))
    → most_wasteful bs r (pairs (places (first + 1) (9 - (first + 1)))) ≡ most_wasteful bs p (pairs (places first (9 - first)))
unfolding pairs places
first_step bs first p r h e =
    let n : 9 - first ≡ suc (9 - (first + 1)) = omega arith in
    rw (n, e, add-one first) (sym (most_append bs p (pairs_with first (places (suc first) (9 - suc first))) (pairs (places (suc first) (9 - suc first)))))

pub second_done : (bs : List Box) (first second : ℕ) (p r : Pair) → 9 ≤ second → most_wasteful bs p (pairs_with first (places second (9 - second))) ≡ r → p ≡ r
unfolding most_wasteful pairs_with places
second_done bs first second p r h e = let n : 9 - second ≡ 0 = omega arith in rw n at e

pub first_done : (bs : List Box) (first : ℕ) (p r : Pair) → 9 ≤ first → most_wasteful bs p (pairs (places first (9 - first))) ≡ r → p ≡ r
unfolding most_wasteful pairs places
first_done bs first p r h e = let n : 9 - first ≡ 0 = omega arith in rw n at e

-- choosing the next
module _ (bs : List Box) (s : Groups) where
  key : ℕ → ℕ
  key k = growths_differ s (box_at bs (get_or s.unplaced k 0))

  choice : ℕ → Choice
  choice k = choice_of s (box_at bs (get_or s.unplaced k 0)) k

  -- the best of the first so many
  pub best_of : ℕ → Choice
  best_of n = choice (first_most key (n - 1))

  pub best_first : best_of 1 ≡ choice_of s (box_at bs (get_or s.unplaced 0 0)) 0
  unfolding best_of choice first_most
  best_first = refl

  picked : (t : Bool) (a b : ℕ) → cond t (choice a) (choice b) ≡ choice (cond t a b)
  picked true a b = refl
  picked false a b = refl

  key_is : (k : ℕ) → (choice k).differ ≡ key k
  unfolding choice key choice_of
  key_is k = refl

  pub best_more : (best c r : Choice) (at : ℕ) → 0 < at → best ≡ best_of at → c ≡ choice_of s (box_at bs (get_or s.unplaced at 0)) at → r ≡ cond (ltb best.differ c.differ) c best → r ≡ best_of (at + 1)
  unfolding best_of choice first_most
  best_more best c r zero o pb pc pr = absurd (omega arith)
  best_more best c r (suc n) o pb pc pr =
      let m : suc n - 1 ≡ n = omega arith in
      let l : suc n + 1 - 1 ≡ suc n = omega arith in
      let qb : best ≡ choice (first_most key n) = pb ∙ ap (λ (x : ℕ). choice (first_most key x)) m in
      let kb = ap (λ (x : Choice). x.differ) qb ∙ key_is (first_most key n) in
      let kc = ap (λ (x : Choice). x.differ) pc ∙ key_is (suc n) in
      pr ∙ ap₂ (λ (x y : ℕ). cond (ltb x y) c best) kb kc
      ∙ ap₂ (λ (x y : Choice). cond (ltb (key (first_most key n)) (key (suc n))) x y) pc qb
      ∙ picked (ltb (key (first_most key n)) (key (suc n))) (suc n) (first_most key n)
      ∙ ap (λ (x : ℕ). choice (first_most key x)) (sym l)

  pub best_all : best_of (length s.unplaced) ≡ chosen bs s
  unfolding best_of chosen next key choice
  best_all = refl

  pub chosen_within : (c : Choice) → c ≡ chosen bs s → 0 < length s.unplaced → c.at < length s.unplaced
  unfolding chosen choice_of
  chosen_within c e h = omega (arith, ap (λ (x : Choice). x.at) e, next_within bs s h)

-- a choice, and which group takes it
pub choice_made : (s : Groups) (b : Box) (at f g d : ℕ) → f ≡ growth s.first b → g ≡ growth s.second b → d ≡ difference f g → ◌≡◌ {A = Choice} (record { at = at; first = f; second = g; differ = d }) (choice_of s b at)
unfolding choice_of growths_differ
choice_made s b at f g d p q r =
    let e = r ∙ ap₂ difference p q in
    λ k. record { at = at; first = p k; second = q k; differ = e k }

taken_by : (bs : List Box) (s : Groups) (c : Choice) → c ≡ chosen bs s → to_second s c ≡ second_takes s (box_at bs (get_or s.unplaced c.at 0))
unfolding second_takes chosen choice_of
taken_by bs s c e = subst (λ (x : Choice). to_second s x ≡ second_takes s (box_at bs (get_or s.unplaced x.at 0))) (sym e) refl

abbrev seeded : List Box → Pair → Groups
seeded bs p = record { first = begun bs p.first; second = begun bs p.second; unplaced = without p.first (without p.second (places 0 (length bs))) }

-- the beginning: both seeds are taken out of the nine places
pub began : (bs : List Box) (p : Pair) (g h : Group) (l m n : List ℕ) → length bs ≡ 9 → p ≡ seeds bs → g ≡ begun bs p.first → h ≡ begun bs p.second → l ≡ places 0 9 → m ≡ without p.second l → n ≡ without p.first m
    → ◌≡◌ {A = Groups} (record { first = g; second = h; unplaced = n }) (begin bs)
unfolding begin
began bs p g h l m n b e pg ph pl pm pn =
    let o : n ≡ without p.first (without p.second (places 0 (length bs))) = pn ∙ ap (without p.first) (pm ∙ ap (without p.second) (pl ∙ ap (places 0) (sym b))) in
    let made : ◌≡◌ {A = Groups} (record { first = g; second = h; unplaced = n }) (record { first = begun bs p.first; second = begun bs p.second; unplaced = without p.first (without p.second (places 0 (length bs))) }) =
    λ k. record { first = pg k; second = ph k; unplaced = o k } in
    made ∙ ap (seeded bs) e

-- how long lists are when one is taken out of them, or in
pub one_out : (xs ys : List ℕ) (at : ℕ) → at < length xs → ys ≡ without at xs → length ys + 1 ≡ length xs
one_out xs ys at h e = omega (arith, ap length e, length_without xs at h)

pub one_in : (bs : List Box) (g h : Group) (i : ℕ) → h ≡ takes bs g i → length h.members ≡ length g.members + 1
unfolding takes
one_in bs g h i e = omega (arith, ap (λ (x : Group). length x.members) e, length-append g.members (i ∷ []))

-- placing one
pub placed : (bs : List Box) (was s : Groups) (c : Choice) (t : Bool) (i : ℕ) (rest : List ℕ) → was ≡ s → c ≡ chosen bs s → t ≡ to_second s c → i ≡ get_or was.unplaced c.at 0 → rest ≡ without c.at was.unplaced
    → given t bs was i rest ≡ place bs s
unfolding place chosen choice_of
placed bs was s c t i rest same e pt pi pr =
    let k : c.at ≡ next bs s = ap (λ (x : Choice). x.at) e in
    let u = second_takes s (box_at bs (get_or s.unplaced c.at 0)) in
    ap₂ (λ (v : Bool) (l : List ℕ). given v bs was i l) (pt ∙ taken_by bs s c e) pr
    ∙ ap (λ (j : ℕ). given u bs was j (without c.at was.unplaced)) pi
    ∙ ap (λ (g : Groups). given u bs g (get_or g.unplaced c.at 0) (without c.at g.unplaced)) same
    ∙ ap (λ (j : ℕ). given (second_takes s (box_at bs (get_or s.unplaced j 0))) bs s (get_or s.unplaced j 0) (without j s.unplaced)) k

-- one step of placing all
module _ (bs : List Box) (s t : Groups) (some : 0 < length s.unplaced) where
  step : (p q : Bool) → p ≡ needs_all s.first s.unplaced → q ≡ needs_all s.second s.unplaced
      → place_all bs (length s.unplaced) s ≡ cond p (all_to_first s) (cond q (all_to_second s) (place_all bs (length s.unplaced - 1) (place bs s)))
  unfolding place_all
  step p q e f =
      let n : length s.unplaced ≡ suc (length s.unplaced - 1) = omega arith in
      ap (λ (m : ℕ). place_all bs m s) n ∙ ap₂ (λ (x y : Bool). cond x (all_to_first s) (cond y (all_to_second s) (place_all bs (length s.unplaced - 1) (place bs s)))) (sym e) (sym f)

  nothing : (u : Groups) → t ≡ u → length u.unplaced ≡ 0 → place_all bs (length t.unplaced) t ≡ u
  unfolding place_all
  nothing u e z = ap₂ (λ (m : ℕ) (x : Groups). place_all bs m x) (ap (λ (x : Groups). length x.unplaced) e ∙ z) e

  pub onward_first : true ≡ needs_all s.first s.unplaced → t ≡ all_to_first s → Onward bs s t
  onward_first p e =
      record {
        same = nothing (all_to_first s) e refl ∙ sym (step true (needs_all s.second s.unplaced) p refl);
        fewer = omega (arith, ap (λ (x : Groups). length x.unplaced) e);
      }

  pub onward_second : false ≡ needs_all s.first s.unplaced → true ≡ needs_all s.second s.unplaced → t ≡ all_to_second s → Onward bs s t
  onward_second p q e =
      record {
        same = nothing (all_to_second s) e refl ∙ sym (step false true p q);
        fewer = omega (arith, ap (λ (x : Groups). length x.unplaced) e);
      }

  pub onward_one : false ≡ needs_all s.first s.unplaced → false ≡ needs_all s.second s.unplaced → t ≡ place bs s → Onward bs s t
  onward_one p q e =
      let n : length t.unplaced ≡ length s.unplaced - 1 = omega (arith, ap (λ (x : Groups). length x.unplaced) e, length_place bs s some) in
      record {
        same = ap₂ (λ (m : ℕ) (x : Groups). place_all bs m x) n e ∙ sym (step false false p q);
        fewer = omega arith;
      }

pub all_placed : (bs : List Box) (s : Groups) → length s.unplaced ≡ 0 → place_all bs (length s.unplaced) s ≡ s
unfolding place_all
all_placed bs s z = ap (λ (n : ℕ). place_all bs n s) z

-- filling a page
pub entries_at_lem : (es : List Entry) (is : List ℕ) (k : ℕ) → k < length is → get_or (entries_at es is) k layout.zero_entry ≡ get_or es (get_or is k 0) layout.zero_entry
entries_at_lem es is k h = get_or-map (λ i. get_or es i layout.zero_entry) is k 0 layout.zero_entry h

module _ (es : List Entry) (is : List ℕ) where
  pub fill_step : (now : List Entry) (k : ℕ) → k < length is → length is ≤ 8 → now ≡ paste (replicate 8 layout.zero_entry) 0 (entries_at es is) k
      → set now k (get_or es (get_or is k 0) layout.zero_entry) ≡ paste (replicate 8 layout.zero_entry) 0 (entries_at es is) (k + 1)
  fill_step now k h few e =
      let n = length-map is (λ i. get_or es i layout.zero_entry) in
      let v = entries_at_lem es is k h in
      let at : 0 + k ≡ k = omega arith in
      rw (e, ← v) (subst (λ (j : ℕ). set (paste (replicate 8 layout.zero_entry) 0 (entries_at es is) k) j (get_or (entries_at es is) k layout.zero_entry) ≡ paste (replicate 8 layout.zero_entry) 0 (entries_at es is) (k + 1)) at
      (paste_more (replicate 8 layout.zero_entry) 0 (entries_at es is) k layout.zero_entry (omega arith) (omega arith)))

  pub fill_done : (level : ℕ) (x : Page) → length is ≤ 8 → x.level ≡ level → x.count ≡ length is → x.entries ≡ paste (replicate 8 layout.zero_entry) 0 (entries_at es is) (length is) → x ≡ page_from level (entries_at es is)
  unfolding page_from
  fill_done level x few pl pc pe =
      let n = length-map is (λ i. get_or es i layout.zero_entry) in
      let at : 0 + length is ≡ length (entries_at es is) = omega arith in
      let m : x.entries ≡ entries_at es is ++ replicate (8 - length (entries_at es is)) layout.zero_entry =
      pe ∙ paste_all (replicate 8 layout.zero_entry) 0 (entries_at es is) (length is) (sym n)
      ∙ ap (λ (l : List Entry). entries_at es is ++ l) (ap (λ (j : ℕ). drop j (replicate 8 layout.zero_entry)) at ∙ drop-replicate (length (entries_at es is)) 8 layout.zero_entry) in
      let c : x.count ≡ length (entries_at es is) = omega arith in
      λ i. record { level = pl i; count = c i; entries = m i }

-- the two pages: what the groups hold at the end
module _ (bs : List Box) (b t : Groups) (start : b ≡ begin bs) (end : t ≡ place_all bs (length b.unplaced) b) where
  last : t ≡ place_all bs (length (begin bs).unplaced) (begin bs)
  last = end ∙ ap (λ (s : Groups). place_all bs (length s.unplaced) s) start

  pub both_few : length bs ≡ 9 → Members t
  both_few n = subst Members (sym last) (members_of_nine bs n)

  pub both_pages : (es : List Entry) (level : ℕ) (x y : Page) → bs ≡ boxes_of es → x ≡ page_from level (entries_at es t.first.members) → y ≡ page_from level (entries_at es t.second.members)
      → ◌≡◌ {A = Halves} (record { first = x; second = y }) (pages_from level (halves es))
  unfolding halves
  both_pages es level x y e p q =
      let same = last ∙ ap (λ (l : List Box). place_all l (length (begin l).unplaced) (begin l)) e in
      let m = p ∙ ap (λ (s : Groups). page_from level (entries_at es s.first.members)) same in
      let n = q ∙ ap (λ (s : Groups). page_from level (entries_at es s.second.members)) same in
      λ i. record { first = m i; second = n i }
