-- Laws of the split: both groups together are the entries, each has at least three, and each begins with its seed.
use Rattle.std.specs.Prelude.{Bool, cond, ◌≡◌, ltb, take, replicate}
use Rattle.std.proofs.Math.Bool.{true, false}
use mathlib.Core.List.{List, [], ◌∷◌, ◌++◌, map}
use Rattle.std.proofs.Math.Path.{refl, sym, ap, subst}
use Rattle.std.proofs.Common.{◌∙◌, not-suc-le-zero, le_of_suc-le-suc, length-drop, take_at}
use Prim.Native.Nat.{ℕ, zero, suc, ◌+◌, ◌-◌, ◌≤◌, ◌<◌}
use native.Mathlib.Omega.{arith}
use borrow.Author.Tests.{leb-true, leb-false}
use Rattle.std.proofs.Math.ListN.{length, get_or, drop, length-append, length-take, length-map, get_or-append}
use Rattle.std.proofs.lemmas.List.{length-replicate}
use Rattle.std.proofs.Math.Seq.{split_at, get_or-take}
use Rattle.ground.specs.declared.boxes.Box.{Box}
use Rattle.pages.specs.Layout.{page_entries, zero_entry}
use Rattle.pages.specs.Summary.{in_use}
use Rattle.pages.specs.declared.Entry.{Entry}
use Rattle.split.specs.Split.{places, Pair, pairs_with, pairs, wastes_more, most_wasteful, seeds, Group, begun, takes, takes_all, Groups, without, begin, needs_all, first_most, next, second_takes, given, place, all_to_first, all_to_second, place_all, TwoLists, box_at, boxes_of, entries_at, halves, page_from}

-- The sum of a weight over a list. Two lists with the same sums for every weight are permutations of each other.
unfoldable pub weigh : {A : Type 0} → (A → ℕ) → List A → ℕ
weigh h [] = 0
weigh h (x ∷ xs) = h x + weigh h xs

-- What holds of each in a list.
abbrev pub Each : {A : Type 0} → (A → Type 0) → List A → Type 0
Each Q [] = Unit {0}
Each Q (x ∷ xs) = Q x × Each Q xs

module _ {A : Type 0} where
  pub weigh_append : (h : A → ℕ) (xs ys : List A) → weigh h (xs ++ ys) ≡ weigh h xs + weigh h ys
  unfolding weigh
  weigh_append h [] ys = omega arith
  weigh_append h (x ∷ xs) ys = omega (arith, weigh_append h xs ys)

  pub weigh_count : (xs : List A) → weigh (λ x. 1) xs ≡ length xs
  unfolding weigh
  weigh_count [] = refl
  weigh_count (x ∷ xs) = omega (arith, weigh_count xs)

  pub weigh_one : (h : A → ℕ) (x : A) → weigh h (x ∷ []) ≡ h x
  unfolding weigh
  weigh_one h x = omega arith

  pub each_append : (Q : A → Type 0) (xs ys : List A) → Each Q xs → Each Q ys → Each Q (xs ++ ys)
  each_append Q [] ys p q = q
  each_append Q (x ∷ xs) ys p q = (p.0, each_append Q xs ys p.1 q)

  pub each_first : (Q : A → Type 0) (xs ys : List A) → Each Q (xs ++ ys) → Each Q xs
  each_first Q [] ys p = tt
  each_first Q (x ∷ xs) ys p = (p.0, each_first Q xs ys p.1)

  pub each_second : (Q : A → Type 0) (xs ys : List A) → Each Q (xs ++ ys) → Each Q ys
  each_second Q [] ys p = p
  each_second Q (x ∷ xs) ys p = each_second Q xs ys p.1

  pub each_at : (Q : A → Type 0) (xs : List A) (d : A) (i : ℕ) → i < length xs → Each Q xs → Q (get_or xs i d)
  each_at Q [] d i h p = absurd (not-suc-le-zero h)
  each_at Q (x ∷ xs) d zero h p = p.0
  each_at Q (x ∷ xs) d (suc i) h p = each_at Q xs d i (le_of_suc-le-suc h) p.1

  pub each_of : (Q : A → Type 0) (xs : List A) (d : A) → ((i : ℕ) → i < length xs → Q (get_or xs i d)) → Each Q xs
  each_of Q [] d f = tt
  each_of Q (x ∷ xs) d f = (f 0 (omega arith), each_of Q xs d (λ i h. f (suc i) (omega arith)))

-- through a map
weigh_map : {A B : Type 0} (h : B → ℕ) (f : A → B) (xs : List A) → weigh h (map f xs) ≡ weigh (λ x. h (f x)) xs
unfolding weigh
weigh_map h f [] = refl
weigh_map h f (x ∷ xs) = ap (λ (n : ℕ). h (f x) + n) (weigh_map h f xs)

each_map : {A B : Type 0} (Q : B → Type 0) (f : A → B) (xs : List A) → Each (λ x. Q (f x)) xs → Each Q (map f xs)
each_map Q f [] p = tt
each_map Q f (x ∷ xs) p = (p.0, each_map Q f xs p.1)

-- one taken out
module _ (is : List ℕ) (k : ℕ) (inside : k < length is) where
  parted : is ≡ take k is ++ (get_or is k 0 ∷ drop (suc k) is)
  parted = split_at is k 0 inside

  weigh_without : (w : ℕ → ℕ) → weigh w (without k is) + w (get_or is k 0) ≡ weigh w is
  unfolding weigh
  weigh_without w = omega (arith, weigh_append w (take k is) (drop (suc k) is), weigh_append w (take k is) (get_or is k 0 ∷ drop (suc k) is), ap (weigh w) parted)

  pub length_without : suc (length (without k is)) ≡ length is
  length_without = simp (length-append, length-take, length-drop) (omega arith)

  each_without : (Q : ℕ → Type 0) → Each Q is → Each Q (without k is)
  each_without Q p =
      let q : Each Q (take k is ++ (get_or is k 0 ∷ drop (suc k) is)) = subst (λ (l : List ℕ). Each Q l) parted p in
      each_append Q (take k is) (drop (suc k) is) (each_first Q (take k is) (get_or is k 0 ∷ drop (suc k) is) q) (each_second Q (take k is) (get_or is k 0 ∷ drop (suc k) is) q).1

-- the places of a list
pub length_places : (i n : ℕ) → length (places i n) ≡ n
unfolding places
length_places i zero = refl
length_places i (suc n) = ap suc (length_places (suc i) n)

pub at_places : (i n k : ℕ) → k < n → get_or (places i n) k 0 ≡ i + k
unfolding places
at_places i zero k h = absurd (not-suc-le-zero h)
at_places i (suc n) zero h = omega arith
at_places i (suc n) (suc k) h = omega (arith, at_places (suc i) n k (le_of_suc-le-suc h))

weigh_shifted : (w : ℕ → ℕ) (i n : ℕ) → weigh w (places (suc i) n) ≡ weigh (λ k. w (suc k)) (places i n)
unfolding weigh places
weigh_shifted w i zero = refl
weigh_shifted w i (suc n) = ap (λ (m : ℕ). w (suc i) + m) (weigh_shifted w (suc i) n)

each_shifted : (Q : ℕ → Type 0) (i n : ℕ) → Each (λ k. Q (suc k)) (places i n) → Each Q (places (suc i) n)
unfolding places
each_shifted Q i zero p = tt
each_shifted Q i (suc n) p = (p.0, each_shifted Q (suc i) n p.1)

weigh_places : (h : Entry → ℕ) (es : List Entry) → weigh (λ i. h (get_or es i zero_entry)) (places 0 (length es)) ≡ weigh h es
unfolding weigh places
weigh_places h [] = refl
weigh_places h (e ∷ es) = ap (λ (m : ℕ). h e + m) (weigh_shifted (λ i. h (get_or (e ∷ es) i zero_entry)) 0 (length es) ∙ weigh_places h es)

each_places : (Q : Entry → Type 0) (es : List Entry) → Each Q es → Each (λ i. Q (get_or es i zero_entry)) (places 0 (length es))
unfolding places
each_places Q [] p = tt
each_places Q (e ∷ es) p = (p.0, each_shifted (λ i. Q (get_or (e ∷ es) i zero_entry)) 0 (length es) (each_places Q es p.1))

-- the seeds are two places of the list, the lower first
pub record Ordered (n : ℕ) (p : Pair) : Type 0 where
  pub lower : p.first < p.second
  pub within : p.second < n

pairs_with_lem : (i j m n : ℕ) → i < j → j + m ≤ n → Each (Ordered n) (pairs_with i (places j m))
unfolding pairs_with places
pairs_with_lem i j zero n h k = tt
pairs_with_lem i j (suc m) n h k = (record { lower = h; within = omega arith }, pairs_with_lem i (suc j) m n (omega arith) (omega arith))

pairs_ordered : (i m n : ℕ) → i + m ≤ n → Each (Ordered n) (pairs (places i m))
unfolding pairs places
pairs_ordered i zero n h = tt
pairs_ordered i (suc m) n h = each_append (Ordered n) (pairs_with i (places (suc i) m)) (pairs (places (suc i) m)) (pairs_with_lem i (suc i) m n (omega arith) (omega arith)) (pairs_ordered (suc i) m n (omega arith))

most_each : (Q : Pair → Type 0) (bs : List Box) (p : Pair) (qs : List Pair) → Q p → Each Q qs → Q (most_wasteful bs p qs)
unfolding most_wasteful
most_each Q bs p [] h k = h
most_each Q bs p (q ∷ qs) h k = most_each Q bs (cond (wastes_more bs q p) q p) qs (chosen (wastes_more bs q p)) k.1
  where
    chosen : (t : Bool) → Q (cond t q p)
    chosen true = k.0
    chosen false = h

pub seeds_ordered : (bs : List Box) → 2 ≤ length bs → Ordered (length bs) (seeds bs)
unfolding seeds
seeds_ordered bs h =
    most_each (Ordered (length bs)) bs (record { first = 0; second = 1 }) (pairs (places 0 (length bs)))
    (record { lower = omega arith; within = omega arith }) (pairs_ordered 0 (length bs) (length bs) (omega arith))

-- the weight of a group and of all
unfoldable pub weigh_groups : (ℕ → ℕ) → Groups → ℕ
weigh_groups w s = weigh w s.first.members + weigh w s.second.members + weigh w s.unplaced

-- which of the unplaced comes next is one of them
most_within : (key : ℕ → ℕ) (n : ℕ) → first_most key n ≤ n
unfolding first_most
most_within key zero = omega arith
most_within key (suc n) = chosen (ltb (key (first_most key n)) (key (suc n))) (most_within key n)
  where
    chosen : (t : Bool) → first_most key n ≤ n → cond t (suc n) (first_most key n) ≤ suc n
    chosen true h = omega arith
    chosen false h = omega arith

pub next_within : (bs : List Box) (s : Groups) → 0 < length s.unplaced → next bs s < length s.unplaced
unfolding next
next_within bs s h = omega (arith, most_within (λ k. Rattle.split.specs.Split.growths_differ s (box_at bs (get_or s.unplaced k 0))) (length s.unplaced - 1))

module _ (bs : List Box) where
  -- a group that takes one, or all
  weigh_takes : (w : ℕ → ℕ) (g : Group) (i : ℕ) → weigh w (takes bs g i).members ≡ weigh w g.members + w i
  unfolding takes
  weigh_takes w g i = omega (arith, weigh_append w g.members (i ∷ []), weigh_one w i)

  weigh_takes_all : (w : ℕ → ℕ) (g : Group) (is : List ℕ) → weigh w (takes_all g is).members ≡ weigh w g.members + weigh w is
  weigh_takes_all w g is = weigh_append w g.members is

  each_takes : (Q : ℕ → Type 0) (g : Group) (i : ℕ) → Each Q g.members → Q i → Each Q (takes bs g i).members
  unfolding takes
  each_takes Q g i p q = each_append Q g.members (i ∷ []) p (q, tt)

  -- one that goes to either group
  weigh_given : (w : ℕ → ℕ) (t : Bool) (s : Groups) (i : ℕ) (rest : List ℕ) → weigh w rest + w i ≡ weigh w s.unplaced → weigh_groups w (given t bs s i rest) ≡ weigh_groups w s
  unfolding weigh_groups
  weigh_given w true s i rest e = omega (arith, weigh_takes w s.second i)
  weigh_given w false s i rest e = omega (arith, weigh_takes w s.first i)

  pub weigh_place : (w : ℕ → ℕ) (s : Groups) → 0 < length s.unplaced → weigh_groups w (place bs s) ≡ weigh_groups w s
  unfolding place
  weigh_place w s h =
      let k = next bs s in
      let i = get_or s.unplaced k 0 in
      weigh_given w (second_takes s (box_at bs i)) s i (without k s.unplaced) (weigh_without s.unplaced k (next_within bs s h) w)

  left_given : (t : Bool) (s : Groups) (i : ℕ) (rest : List ℕ) → (given t bs s i rest).unplaced ≡ rest
  left_given true s i rest = refl
  left_given false s i rest = refl

  pub length_place : (s : Groups) → 0 < length s.unplaced → suc (length (place bs s).unplaced) ≡ length s.unplaced
  unfolding place
  length_place s h =
      let k = next bs s in
      let i = get_or s.unplaced k 0 in
      ap (λ (l : List ℕ). suc (length l)) (left_given (second_takes s (box_at bs i)) s i (without k s.unplaced)) ∙ length_without s.unplaced k (next_within bs s h)

  -- What is kept by every way through is kept by placing all: the three ways are all to the first, all to the second, and one placed.
  pub record Kept (Q : Groups → Type 0) : Type 0 where
    pub first : (s : Groups) → Q s → needs_all s.first s.unplaced ≡ true → Q (all_to_first s)
    pub second : (s : Groups) → Q s → needs_all s.second s.unplaced ≡ true → Q (all_to_second s)
    pub one : (s : Groups) → Q s → 0 < length s.unplaced → needs_all s.first s.unplaced ≡ false → needs_all s.second s.unplaced ≡ false → Q (place bs s)

  pub kept : (Q : Groups → Type 0) → Kept Q → (n : ℕ) (s : Groups) → n ≡ length s.unplaced → Q s → Q (place_all bs n s)
  unfolding place_all
  kept Q k zero s e q = q
  kept Q k (suc n) s e q = ways (needs_all s.first s.unplaced) refl (needs_all s.second s.unplaced) refl (λ c. kept Q k n (place bs s) (omega (arith, length_place s (omega arith))) c)
    where
      ways : (t : Bool) → needs_all s.first s.unplaced ≡ t → (u : Bool) → needs_all s.second s.unplaced ≡ u → (Q (place bs s) → Q (place_all bs n (place bs s)))
          → Q (cond t (all_to_first s) (cond u (all_to_second s) (place_all bs n (place bs s))))
      ways true p u p' c = k.first s q p
      ways false p true p' c = k.second s q p'
      ways false p false p' c = c (k.one s q (omega arith) p p')

  pub none_left : (n : ℕ) (s : Groups) → n ≡ length s.unplaced → length (place_all bs n s).unplaced ≡ 0
  unfolding place_all
  none_left zero s e = sym e
  none_left (suc n) s e = ways (needs_all s.first s.unplaced) (needs_all s.second s.unplaced) (none_left n (place bs s) (omega (arith, length_place s (omega arith))))
    where
      ways : (t u : Bool) → length (place_all bs n (place bs s)).unplaced ≡ 0 → length (cond t (all_to_first s) (cond u (all_to_second s) (place_all bs n (place bs s)))).unplaced ≡ 0
      ways true u c = refl
      ways false true c = refl
      ways false false c = c

  -- the weight is kept
  kept_weight : (w : ℕ → ℕ) (m : ℕ) → Kept (λ s. weigh_groups w s ≡ m)
  unfolding weigh_groups weigh
  kept_weight w m =
      record {
        first = λ s q p. omega (arith, weigh_takes_all w s.first s.unplaced);
        second = λ s q p. omega (arith, weigh_takes_all w s.second s.unplaced);
        one = λ s q h p p'. weigh_place w s h ∙ q;
      }

  -- what holds of each place is kept
  EachIn : (ℕ → Type 0) → Groups → Type 0
  EachIn Q s = Each Q s.first.members × Each Q s.second.members × Each Q s.unplaced

  each_given : (Q : ℕ → Type 0) (t : Bool) (s : Groups) (i : ℕ) (rest : List ℕ) → Each Q s.first.members → Each Q s.second.members → Q i → Each Q rest → EachIn Q (given t bs s i rest)
  unfolding EachIn
  each_given Q true s i rest p q o r = (p, each_takes Q s.second i q o, r)
  each_given Q false s i rest p q o r = (each_takes Q s.first i p o, q, r)

  kept_each : (Q : ℕ → Type 0) → Kept (EachIn Q)
  unfolding EachIn place
  kept_each Q =
      record {
        first = λ s q p. (each_append Q s.first.members s.unplaced q.0 q.2, q.1, tt);
        second = λ s q p. (q.0, each_append Q s.second.members s.unplaced q.1 q.2, tt);
        one = λ s q h p p'.
            let k = next bs s in
            let i = get_or s.unplaced k 0 in
            each_given Q (second_takes s (box_at bs i)) s i (without k s.unplaced) q.0 q.1
            (each_at Q s.unplaced 0 k (next_within bs s h) q.2) (each_without s.unplaced k (next_within bs s h) Q q.2);
      }

  -- each group can still reach three
  record Enough (s : Groups) : Type 0 where
    all : 6 ≤ length s.first.members + length s.second.members + length s.unplaced
    first : 3 ≤ length s.first.members + length s.unplaced
    second : 3 ≤ length s.second.members + length s.unplaced

  length_takes : (g : Group) (i : ℕ) → length (takes bs g i).members ≡ length g.members + 1
  unfolding takes
  length_takes g i = length-append g.members (i ∷ [])

  enough_given : (t : Bool) (s : Groups) (i : ℕ) (rest : List ℕ) → suc (length rest) ≡ length s.unplaced → Enough s
      → 3 < length s.first.members + length s.unplaced → 3 < length s.second.members + length s.unplaced → Enough (given t bs s i rest)
  enough_given true s i rest e q h k =
      let l = length_takes s.second i in
      record { all = omega (arith, q.all); first = omega arith; second = omega arith }
  enough_given false s i rest e q h k =
      let l = length_takes s.first i in
      record { all = omega (arith, q.all); first = omega arith; second = omega arith }

  kept_enough : Kept Enough
  unfolding place
  kept_enough =
      record {
        first = λ s q p.
            let h = leb-true (length s.first.members + length s.unplaced) 3 p in
            let l = length-append s.first.members s.unplaced in
            record { all = omega (arith, q.all); first = omega (arith, q.first); second = omega (arith, q.all) };
        second = λ s q p.
            let h = leb-true (length s.second.members + length s.unplaced) 3 p in
            let l = length-append s.second.members s.unplaced in
            record { all = omega (arith, q.all); first = omega (arith, q.all); second = omega (arith, q.second) };
        one = λ s q h p p'.
            let k = next bs s in
            let i = get_or s.unplaced k 0 in
            enough_given (second_takes s (box_at bs i)) s i (without k s.unplaced) (length_without s.unplaced k (next_within bs s h)) q
            (leb-false (length s.first.members + length s.unplaced) 3 p) (leb-false (length s.second.members + length s.unplaced) 3 p');
      }

  -- each group begins with its seed
  Begins : ℕ → Group → Type 0
  Begins i g = (rest : List ℕ) × (g.members ≡ i ∷ rest)

  begins_takes : (i : ℕ) (g : Group) (j : ℕ) → Begins i g → Begins i (takes bs g j)
  unfolding Begins takes
  begins_takes i g j b = (b.0 ++ (j ∷ []), ap (λ (l : List ℕ). l ++ (j ∷ [])) b.1)

  begins_takes_all : (i : ℕ) (g : Group) (js : List ℕ) → Begins i g → Begins i (takes_all g js)
  unfolding Begins
  begins_takes_all i g js b = (b.0 ++ js, ap (λ (l : List ℕ). l ++ js) b.1)

  BeginWith : ℕ → ℕ → Groups → Type 0
  BeginWith i j s = Begins i s.first × Begins j s.second

  begins_given : (i j : ℕ) (t : Bool) (s : Groups) (k : ℕ) (rest : List ℕ) → BeginWith i j s → BeginWith i j (given t bs s k rest)
  unfolding BeginWith
  begins_given i j true s k rest b = (b.0, begins_takes j s.second k b.1)
  begins_given i j false s k rest b = (begins_takes i s.first k b.0, b.1)

  kept_begins : (i j : ℕ) → Kept (BeginWith i j)
  unfolding BeginWith place
  kept_begins i j =
      record {
        first = λ s q p. (begins_takes_all i s.first s.unplaced q.0, q.1);
        second = λ s q p. (q.0, begins_takes_all j s.second s.unplaced q.1);
        one = λ s q h p p'.
            let k = next bs s in
            let o = get_or s.unplaced k 0 in
            begins_given i j (second_takes s (box_at bs o)) s o (without k s.unplaced) q;
      }

  -- the two seeds and the others are all the places
  module _ (some : 2 ≤ length bs) where
    ordered : Ordered (length bs) (seeds bs)
    ordered = seeds_ordered bs some

    second_inside : (seeds bs).second < length (places 0 (length bs))
    second_inside = omega (arith, length_places 0 (length bs), ordered.within)

    others : List ℕ
    others = without (seeds bs).second (places 0 (length bs))

    first_inside : (seeds bs).first < length others
    unfolding others
    first_inside = omega (arith, length_without (places 0 (length bs)) (seeds bs).second second_inside, length_places 0 (length bs), ordered.lower, ordered.within)

    second_there : get_or (places 0 (length bs)) (seeds bs).second 0 ≡ (seeds bs).second
    second_there = omega (arith, at_places 0 (length bs) (seeds bs).second ordered.within)

    first_there : get_or others (seeds bs).first 0 ≡ (seeds bs).first
    unfolding others
    first_there =
        let h = ordered.lower in
        let k = ordered.within in
        let l = length_places 0 (length bs) in
        get_or-append (take (seeds bs).second (places 0 (length bs))) (drop (suc (seeds bs).second) (places 0 (length bs))) 0 (seeds bs).first (simp length-take (omega arith))
        ∙ get_or-take (seeds bs).second (places 0 (length bs)) (seeds bs).first 0 h
        ∙ omega (arith, at_places 0 (length bs) (seeds bs).first (omega arith))

    weigh_begin : (w : ℕ → ℕ) → weigh_groups w (begin bs) ≡ weigh w (places 0 (length bs))
    unfolding weigh_groups begin others
    weigh_begin w =
        omega (
          arith,
          weigh_one w (seeds bs).first,
          weigh_one w (seeds bs).second,
          weigh_without others (seeds bs).first first_inside w,
          ap w first_there,
          weigh_without (places 0 (length bs)) (seeds bs).second second_inside w,
          ap w second_there,
        )

    each_begin : (Q : ℕ → Type 0) → Each Q (places 0 (length bs)) → EachIn Q (begin bs)
    unfolding EachIn begin others
    each_begin Q p =
        let r = each_without (places 0 (length bs)) (seeds bs).second second_inside Q p in
        let a = each_at Q others 0 (seeds bs).first first_inside r in
        let b = each_at Q (places 0 (length bs)) 0 (seeds bs).second second_inside p in
        ((subst Q first_there a, tt), (subst Q second_there b, tt), each_without others (seeds bs).first first_inside Q r)

    pub length_begin : length (begin bs).unplaced + 2 ≡ length bs
    unfolding begin others
    length_begin =
        omega (arith, length_without others (seeds bs).first first_inside, length_without (places 0 (length bs)) (seeds bs).second second_inside, length_places 0 (length bs))

  enough_begin : 6 ≤ length bs → Enough (begin bs)
  unfolding begin
  enough_begin h = let l = length_begin (omega arith) in record { all = omega arith; first = omega arith; second = omega arith }

  begins_begin : BeginWith (seeds bs).first (seeds bs).second (begin bs)
  unfolding BeginWith Begins begin
  begins_begin = (([], refl), ([], refl))

-- The laws of both lists.
module _ (es : List Entry) where
  boxes_length : length (boxes_of es) ≡ length es
  boxes_length = length-map es (λ e. e.place)

  last : Groups
  last = place_all (boxes_of es) (length (begin (boxes_of es)).unplaced) (begin (boxes_of es))

  nothing_left : length last.unplaced ≡ 0
  unfolding last
  nothing_left = none_left (boxes_of es) (length (begin (boxes_of es)).unplaced) (begin (boxes_of es)) refl

  weightless : (w : ℕ → ℕ) (is : List ℕ) → length is ≡ 0 → weigh w is ≡ 0
  unfolding weigh
  weightless w [] e = refl
  weightless w (i ∷ is) e = absurd (omega arith)

  -- both groups together are a permutation of the entries: for every weight the sums agree
  pub halves_weigh : (h : Entry → ℕ) → 2 ≤ length es → weigh h (halves es).first + weigh h (halves es).second ≡ weigh h es
  unfolding halves last weigh_groups
  halves_weigh h n =
      let bs = boxes_of es in
      let w : ℕ → ℕ = λ i. h (get_or es i zero_entry) in
      let two : 2 ≤ length (boxes_of es) = omega (arith, boxes_length) in
      let all = kept bs (λ s. weigh_groups w s ≡ weigh w (places 0 (length bs))) (kept_weight bs w (weigh w (places 0 (length bs)))) (length (begin bs).unplaced) (begin bs) refl (weigh_begin bs two w) in
      let same = ap (λ (m : ℕ). weigh w (places 0 m)) boxes_length in
      omega (
        arith,
        all,
        same,
        weigh_places h es,
        weightless w last.unplaced nothing_left,
        weigh_map h (λ i. get_or es i zero_entry) last.first.members,
        weigh_map h (λ i. get_or es i zero_entry) last.second.members,
      )

  pub halves_length : 2 ≤ length es → length (halves es).first + length (halves es).second ≡ length es
  halves_length n = omega (arith, halves_weigh (λ e. 1) n, weigh_count (halves es).first, weigh_count (halves es).second, weigh_count es)

  -- each has at least three
  pub record AtLeastThree : Type 0 where
    pub first : 3 ≤ length (halves es).first
    pub second : 3 ≤ length (halves es).second

  pub halves_enough : 6 ≤ length es → AtLeastThree
  unfolding halves last
  halves_enough n =
      let bs = boxes_of es in
      let q = kept bs (Enough bs) (kept_enough bs) (length (begin bs).unplaced) (begin bs) refl (enough_begin bs (omega (arith, boxes_length))) in
      record {
        first = omega (arith, q.first, nothing_left, length-map last.first.members (λ i. get_or es i zero_entry));
        second = omega (arith, q.second, nothing_left, length-map last.second.members (λ i. get_or es i zero_entry));
      }

  -- of nine, each group has three to six
  pub record ThreeToSix : Type 0 where
    pub first : 3 ≤ length (halves es).first
    pub second : 3 ≤ length (halves es).second
    pub first_most_lem : length (halves es).first ≤ 6
    pub second_most : length (halves es).second ≤ 6
    pub all : length (halves es).first + length (halves es).second ≡ 9

  pub nine_halves : length es ≡ 9 → ThreeToSix
  nine_halves n =
      let q = halves_enough (omega arith) in
      let a = halves_length (omega arith) in
      record { first = q.first; second = q.second; first_most_lem = omega (arith, q.second); second_most = omega (arith, q.first); all = a ∙ n }

  -- what holds of each entry holds of each in both groups
  pub halves_each : (Q : Entry → Type 0) → 2 ≤ length es → Each Q es → Each Q (halves es).first × Each Q (halves es).second
  unfolding halves last EachIn
  halves_each Q n p =
      let bs = boxes_of es in
      let R : ℕ → Type 0 = λ i. Q (get_or es i zero_entry) in
      let two : 2 ≤ length (boxes_of es) = omega (arith, boxes_length) in
      let start : Each R (places 0 (length bs)) = subst (λ (m : ℕ). Each R (places 0 m)) (sym boxes_length) (each_places Q es p) in
      let q = kept bs (EachIn bs R) (kept_each bs R) (length (begin bs).unplaced) (begin bs) refl (each_begin bs two R start) in
      (each_map Q (λ i. get_or es i zero_entry) last.first.members q.0, each_map Q (λ i. get_or es i zero_entry) last.second.members q.1)

  -- the first group begins with the seed of lower place, the second with the other
  pub record BeginWithSeeds : Type 0 where
    pub first_others : List Entry
    pub first : (halves es).first ≡ get_or es (seeds (boxes_of es)).first zero_entry ∷ first_others
    pub second_others : List Entry
    pub second : (halves es).second ≡ get_or es (seeds (boxes_of es)).second zero_entry ∷ second_others

  pub halves_begin : BeginWithSeeds
  unfolding halves last BeginWith Begins
  halves_begin =
      let bs = boxes_of es in
      let q = kept bs (BeginWith bs (seeds bs).first (seeds bs).second) (kept_begins bs (seeds bs).first (seeds bs).second) (length (begin bs).unplaced) (begin bs) refl (begins_begin bs) in
      record {
        first_others = entries_at es q.0.0;
        first = ap (entries_at es) q.0.1;
        second_others = entries_at es q.1.0;
        second = ap (entries_at es) q.1.1;
      }

-- A page from at most eight entries has eight, and those in use are the given ones.
pub page_from_length : (level : ℕ) (es : List Entry) → length es ≤ page_entries → length (page_from level es).entries ≡ page_entries
unfolding page_from
page_from_length level es h = omega (arith, length-append es (replicate (page_entries - length es) zero_entry), length-replicate (page_entries - length es) zero_entry)

pub page_from_in_use : (level : ℕ) (es : List Entry) → in_use (page_from level es) ≡ es
unfolding page_from
page_from_in_use level es = take_at es (replicate (page_entries - length es) zero_entry) (length es) refl

-- the members of both groups of nine: places of the list, at most six each
pub record Members (s : Groups) : Type 0 where
  pub first : Each (λ i. i < 9) s.first.members
  pub second : Each (λ i. i < 9) s.second.members
  pub first_most_lem : length s.first.members ≤ 6
  pub second_most : length s.second.members ≤ 6

places_below : (i n : ℕ) → i + n ≤ 9 → Each (λ k. k < 9) (places i n)
unfolding places
places_below i zero h = tt
places_below i (suc n) h = (omega arith, places_below (suc i) n (omega arith))

pub members_of_nine : (bs : List Box) → length bs ≡ 9 → Members (place_all bs (length (begin bs).unplaced) (begin bs))
unfolding EachIn weigh_groups
members_of_nine bs n =
    let end = place_all bs (length (begin bs).unplaced) (begin bs) in
    let two : 2 ≤ length bs = omega arith in
    let below = subst (λ (m : ℕ). Each (λ i. i < 9) (places 0 m)) (sym n) (places_below 0 9 (omega arith)) in
    let e = kept bs (EachIn bs (λ i. i < 9)) (kept_each bs (λ i. i < 9)) (length (begin bs).unplaced) (begin bs) refl (each_begin bs two (λ i. i < 9) below) in
    let q = kept bs (Enough bs) (kept_enough bs) (length (begin bs).unplaced) (begin bs) refl (enough_begin bs (omega arith)) in
    let w : ℕ → ℕ = λ i. 1 in
    let a = kept bs (λ s. weigh_groups w s ≡ weigh w (places 0 (length bs))) (kept_weight bs w (weigh w (places 0 (length bs)))) (length (begin bs).unplaced) (begin bs) refl (weigh_begin bs two w) in
    let z = none_left bs (length (begin bs).unplaced) (begin bs) refl in
    let f = weigh_count end.first.members in
    let g = weigh_count end.second.members in
    let p = weigh_count (places 0 (length bs)) in
    let l = length_places 0 (length bs) in
    record {
      first = e.0;
      second = e.1;
      first_most_lem = omega (arith, q.second);
      second_most = omega (arith, q.first);
    }
