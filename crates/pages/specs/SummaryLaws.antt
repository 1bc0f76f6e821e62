-- Laws of the summary: it is the exact index entry for a page.
use Rattle.std.specs.Prelude.{Bool, true, false, cond, ◌≡◌, refl, ltb, length, get_or}
use mathlib.Core.List.{List, [], ◌∷◌}
use Rattle.std.proofs.Math.Logic.{⊎_elim}
use Rattle.std.proofs.Common.{sym, ap, ◌∙◌, subst, not-suc-le-zero, le_of_suc-le-suc, le_trans, ltb-true, ltb-false}
use Prim.Native.Nat.{ℕ, zero, suc, ◌≤◌, ◌<◌}
use Rattle.std.proofs.Math.Nat.{le_refl}
use native.Mathlib.Omega.{arith}
use Rattle.ground.specs.Boxes.{covers, join}
use Rattle.ground.specs.BoxLaws.{covers_self, covers_trans, covers_antisym, join_covers_first, join_covers_second, join_smallest}
use Rattle.ground.specs.Tests.{below_or_not}
use Rattle.ground.specs.declared.boxes.Box.{Box}
use Rattle.pages.specs.declared.Entry.{Entry}
use Rattle.pages.specs.Layout.{zero_entry}
use Rattle.pages.specs.Summary.{record_box, weak_gust, union_box, union_size, gust_of, covering, later_if_greater, first_greatest, least_of, summary}

-- the box covers every entry's box
pub covering_covers : (es : List Entry) (i : ℕ) → i < length es → covers (covering es) (get_or es i zero_entry).place ≡ true
unfolding covering
covering_covers [] i h = absurd (not-suc-le-zero h)
covering_covers (e ∷ []) zero h = covers_self e.place
covering_covers (e ∷ []) (suc i) h = absurd (not-suc-le-zero (le_of_suc-le-suc h))
covering_covers (e ∷ f ∷ es) zero h = join_covers_first e.place (covering (f ∷ es))
covering_covers (e ∷ f ∷ es) (suc i) h =
    covers_trans (join e.place (covering (f ∷ es))) (covering (f ∷ es)) (get_or (f ∷ es) i zero_entry).place
    (join_covers_second e.place (covering (f ∷ es))) (covering_covers (f ∷ es) i (le_of_suc-le-suc h))

-- and is the smallest that does
pub covering_smallest : (es : List Entry) (b : Box) → 0 < length es → ((i : ℕ) → i < length es → covers b (get_or es i zero_entry).place ≡ true) → covers b (covering es) ≡ true
unfolding covering
covering_smallest [] b n h = absurd (not-suc-le-zero n)
covering_smallest (e ∷ []) b n h = h 0 (omega arith)
covering_smallest (e ∷ f ∷ es) b n h =
    join_smallest e.place (covering (f ∷ es)) b (h 0 (omega arith))
    (covering_smallest (f ∷ es) b (omega arith) (λ i k. h (suc i) (omega arith)))

-- the first greatest by a key: at a place of the list, no key is greater, and each earlier one is less
pub record FirstGreatest (key : Entry → ℕ) (es : List Entry) (m : Entry) : Type 0 where
  pub place : ℕ
  pub within : place < length es
  pub there : get_or es place zero_entry ≡ m
  pub greatest : (i : ℕ) → i < length es → key (get_or es i zero_entry) ≤ key m
  pub first : (i : ℕ) → i < place → key (get_or es i zero_entry) < key m

module _ (key : Entry → ℕ) where
  alone : (e : Entry) → FirstGreatest key (e ∷ []) e
  alone e =
      let none : (i : ℕ) → i < 0 → key (get_or (e ∷ []) i zero_entry) < key e = λ i h. absurd (not-suc-le-zero h) in
      record { place = 0; within = omega arith; there = refl; greatest = only; first = none }
    where
      only : (i : ℕ) → i < length (e ∷ []) → key (get_or (e ∷ []) i zero_entry) ≤ key e
      only zero h = le_refl (key e)
      only (suc i) h = absurd (not-suc-le-zero (le_of_suc-le-suc h))

  one_more : (e : Entry) (es : List Entry) (m : Entry) → FirstGreatest key es m → FirstGreatest key (e ∷ es) (later_if_greater key e m)
  one_more e es m h = by_test (ltb (key e) (key m)) refl
    where
      kept : key m ≤ key e → (i : ℕ) → i < length (e ∷ es) → key (get_or (e ∷ es) i zero_entry) ≤ key e
      kept k zero l = le_refl (key e)
      kept k (suc i) l = le_trans (h.greatest i (le_of_suc-le-suc l)) k

      raised : key e < key m → (i : ℕ) → i < length (e ∷ es) → key (get_or (e ∷ es) i zero_entry) ≤ key m
      raised k zero l = omega arith
      raised k (suc i) l = h.greatest i (le_of_suc-le-suc l)

      before : key e < key m → (i : ℕ) → i < suc h.place → key (get_or (e ∷ es) i zero_entry) < key m
      before k zero l = k
      before k (suc i) l = h.first i (le_of_suc-le-suc l)

      by_test : (t : Bool) → ltb (key e) (key m) ≡ t → FirstGreatest key (e ∷ es) (cond t m e)
      by_test true q =
          let k = ltb-true (key e) (key m) q in
          record { place = suc h.place; within = omega (arith, h.within); there = h.there; greatest = raised k; first = before k }
      by_test false q =
          let k = ltb-false (key e) (key m) q in
          let none : (i : ℕ) → i < 0 → key (get_or (e ∷ es) i zero_entry) < key e = λ i l. absurd (not-suc-le-zero l) in
          record { place = 0; within = omega arith; there = refl; greatest = kept k; first = none }

  pub first_greatest_lem : (es : List Entry) → 0 < length es → FirstGreatest key es (first_greatest key es)
  unfolding first_greatest
  first_greatest_lem [] n = absurd (not-suc-le-zero n)
  first_greatest_lem (e ∷ []) n = alone e
  first_greatest_lem (e ∷ f ∷ es) n = one_more e (f ∷ es) (first_greatest key (f ∷ es)) (first_greatest_lem (f ∷ es) (omega arith))

  -- the least by a key is at most every one, and is one of them
  pub least_most : (es : List Entry) (i : ℕ) → i < length es → least_of key es ≤ key (get_or es i zero_entry)
  unfolding least_of
  least_most [] i h = absurd (not-suc-le-zero h)
  least_most (e ∷ []) zero h = le_refl (key e)
  least_most (e ∷ []) (suc i) h = absurd (not-suc-le-zero (le_of_suc-le-suc h))
  least_most (e ∷ f ∷ es) zero h = omega arith
  least_most (e ∷ f ∷ es) (suc i) h = omega (arith, least_most (f ∷ es) i (le_of_suc-le-suc h))

  pub least_there : (es : List Entry) → 0 < length es → (i : ℕ) × (i < length es) × (least_of key es ≡ key (get_or es i zero_entry))
  unfolding least_of
  least_there [] n = absurd (not-suc-le-zero n)
  least_there (e ∷ []) n = (0, omega arith, refl)
  least_there (e ∷ f ∷ es) n =
      let h = least_there (f ∷ es) (omega arith) in
      let q = h.2 in
      let v = least_of key (f ∷ es) in
      ⊎_elim
      (λ w. (0, omega arith, omega arith))
      (λ w. (suc h.0, omega (arith, h.1), omega (arith, h.2)))
      (below_or_not (key e) v)

-- Rules 2.21, 2.22, 2.23, 2.24, 2.25, 2.26: what they ask of the entry s for child page p, of that level and with those entries in use
pub record Exact (p level : ℕ) (es : List Entry) (s : Entry) : Type 0 where
  pub child : s.child ≡ p
  -- the smallest box that covers every entry of the child
  pub covers_each : (i : ℕ) → i < length es → covers s.place (get_or es i zero_entry).place ≡ true
  pub smallest : (b : Box) → ((i : ℕ) → i < length es → covers b (get_or es i zero_entry).place ≡ true) → covers b s.place ≡ true
  -- the child's strongest record: its gust and its box
  pub strongest_entry : Entry
  pub strongest_first : FirstGreatest gust_of es strongest_entry
  pub gust : s.gust ≡ strongest_entry.gust
  pub strongest : s.strongest ≡ record_box level strongest_entry
  -- the weakest gust below
  pub weakest_least : (i : ℕ) → i < length es → s.weakest ≤ weak_gust level (get_or es i zero_entry)
  pub weakest_there : (i : ℕ) × (i < length es) × (s.weakest ≡ weak_gust level (get_or es i zero_entry))
  -- the largest by size among leaf boxes or, above leaves, the child's union boxes
  pub largest_entry : Entry
  pub largest_first : FirstGreatest (union_size level) es largest_entry
  pub union : s.union ≡ union_box level largest_entry

pub summary_exact : (p level : ℕ) (es : List Entry) → 0 < length es → Exact p level es (summary p level es)
unfolding summary
summary_exact p level es n =
    record {
      child = refl;
      covers_each = covering_covers es;
      smallest = λ b h. covering_smallest es b n h;
      strongest_entry = first_greatest gust_of es;
      strongest_first = first_greatest_lem gust_of es n;
      gust = refl;
      strongest = refl;
      weakest_least = least_most (weak_gust level) es;
      weakest_there = least_there (weak_gust level) es n;
      largest_entry = first_greatest (union_size level) es;
      largest_first = first_greatest_lem (union_size level) es n;
      union = refl;
    }

-- and nothing else is exact
module _ (key : Entry → ℕ) (es : List Entry) where
  first_greatest_one : (m n : Entry) → FirstGreatest key es m → FirstGreatest key es n → m ≡ n
  first_greatest_one m n h k =
      let le : key m ≤ key n = subst (λ (x : Entry). key x ≤ key n) h.there (k.greatest h.place h.within) in
      let ge : key n ≤ key m = subst (λ (x : Entry). key x ≤ key m) k.there (h.greatest k.place k.within) in
      let not_before : h.place < k.place → ⊥ = λ l. let o : key m < key n = subst (λ (x : Entry). key x < key n) h.there (k.first h.place l) in omega arith in
      let not_after : k.place < h.place → ⊥ = λ l. let o : key n < key m = subst (λ (x : Entry). key x < key m) k.there (h.first k.place l) in omega arith in
      let same : h.place ≡ k.place = same_place h.place k.place not_before not_after in
      sym h.there ∙ ap (λ (i : ℕ). get_or es i zero_entry) same ∙ k.there
    where
      same_place : (a b : ℕ) → (a < b → ⊥) → (b < a → ⊥) → a ≡ b
      same_place a b p q =
          ⊎_elim (λ w. absurd (p w)) (λ w. ⊎_elim (λ v. absurd (q v)) (λ v. omega arith) (below_or_not b a)) (below_or_not a b)

pub exact_one : (p level : ℕ) (es : List Entry) (s u : Entry) → Exact p level es s → Exact p level es u → s ≡ u
exact_one p level es s u h k =
    let b : s.place ≡ u.place = covers_antisym s.place u.place (k.smallest s.place h.covers_each) (h.smallest u.place k.covers_each) in
    let a : h.strongest_entry ≡ k.strongest_entry = first_greatest_one gust_of es h.strongest_entry k.strongest_entry h.strongest_first k.strongest_first in
    let l : h.largest_entry ≡ k.largest_entry = first_greatest_one (union_size level) es h.largest_entry k.largest_entry h.largest_first k.largest_first in
    let g : s.gust ≡ u.gust = h.gust ∙ ap gust_of a ∙ sym k.gust in
    let c : s.child ≡ u.child = h.child ∙ sym k.child in
    let t : s.strongest ≡ u.strongest = h.strongest ∙ ap (record_box level) a ∙ sym k.strongest in
    let v : s.union ≡ u.union = h.union ∙ ap (union_box level) l ∙ sym k.union in
    let x = h.weakest_there in
    let y = k.weakest_there in
    let w : s.weakest ≡ u.weakest = omega (arith, x.2, y.2, h.weakest_least y.0 y.1, k.weakest_least x.0 x.1) in
    λ i. record { place = b i; gust = g i; weakest = w i; child = c i; strongest = t i; union = v i }
