-- The tree that a store of pages shows. An entry stands for what lies under it, n levels down: its pages and its records are read from the store.
use Rattle.std.specs.Prelude.{true, false, ◌≡◌, refl, ℕ, zero, suc, ◌+◌, ◌≤◌, ◌<◌, length, get_or}
use mathlib.Core.List.{List, [], ◌∷◌, flat_map}
use Rattle.std.proofs.Math.Path.{ap, subst}
use Rattle.std.proofs.Common.{◌∙◌, arith, ne_eqb}
use Rattle.std.proofs.Math.Nat.{le_trans}
use Rattle.ground.specs.declared.boxes.Box.{Box}
use Rattle.pages.specs.Layout.{zero_entry, page_entries}
use Rattle.pages.specs.Summary.{in_use, is_leaf, record_box, weak_gust, union_box, union_size, gust_of, covering, first_greatest, least_of, summary, summary_of}
use Rattle.pages.specs.SummaryLaws.{covering_covers, FirstGreatest, first_greatest_lem, least_most}
use Rattle.pages.specs.declared.Entry.{Entry}
use Rattle.pages.specs.declared.Page.{Page}
use Rattle.split.specs.Split.{page_from}
use Rattle.split.specs.SplitLaws.{weigh, Each, each_at, each_of}
use Rattle.wellformed.specs.WellFormed.{page, leaf_entry_stands}
use Rattle.rules.specs.Lists.{best_of, best_at, best_most, best_flat}
use Rattle.rules.specs.Score.{score, score_gust, score_within}

-- The sum of h over the pages under an entry.
unfoldable pub load : List Page → (ℕ → ℕ) → ℕ → Entry → ℕ
load ps h zero e = 0
load ps h (suc n) e = h e.child + weigh (load ps h n) (in_use (page ps e.child))

-- The records under an entry.
unfoldable pub records : List Page → ℕ → Entry → List Entry
records ps zero e = e ∷ []
records ps (suc n) e = flat_map (records ps n) (in_use (page ps e.child))

-- What the best of them counts for a question.
abbrev pub hit : Box → Entry → ℕ
hit q e = score q e.place e.gust

abbrev pub best : List Page → Box → ℕ → Entry → ℕ
best ps q n e = best_of (hit q) (records ps n e)

-- Page p stands with n levels under its entries, each of which has a property.
pub record Stands (ps : List Page) (n p : ℕ) (S : Entry → Type 0) : Type 0 where
  pub inside : p < length ps
  pub form : page ps p ≡ page_from (suc n) (in_use (page ps p))
  pub most : length (in_use (page ps p)) ≤ page_entries
  pub each : Each S (in_use (page ps p))

-- An index entry is exact for its child page, which stands and has an entry.
pub record Shown (ps : List Page) (n : ℕ) (S : Entry → Type 0) (e : Entry) : Type 0 where
  pub stands : Stands ps n e.child S
  pub some : 1 ≤ length (in_use (page ps e.child))
  pub exact : e ≡ summary_of e.child (page ps e.child)

abbrev pub Sound : List Page → ℕ → Entry → Type 0
Sound ps zero e = leaf_entry_stands e ≡ true
Sound ps (suc n) e = Shown ps n (Sound ps n) e

-- a summary of a page that stands, from its entries
pub level_of : (ps : List Page) (n p : ℕ) (S : Entry → Type 0) → Stands ps n p S → (page ps p).level ≡ suc n
unfolding page_from
level_of ps n p S h = ap (λ (x : Page). x.level) h.form

pub exact_entries : (ps : List Page) (n : ℕ) (S : Entry → Type 0) (e : Entry) → Shown ps n S e → e ≡ summary e.child (suc n) (in_use (page ps e.child))
unfolding summary_of
exact_entries ps n S e h = h.exact ∙ ap (λ (l : ℕ). summary e.child l (in_use (page ps e.child))) (level_of ps n e.child S h.stands)

-- which boxes and gusts of an entry its summary takes, by the levels under it
abbrev strong_box : ℕ → Entry → Box
strong_box zero e = e.place
strong_box (suc n) e = e.strongest

abbrev wide_box : ℕ → Entry → Box
wide_box zero e = e.place
wide_box (suc n) e = e.union

abbrev weak_of : ℕ → Entry → ℕ
weak_of zero e = e.gust
weak_of (suc n) e = e.weakest

above_leaf : (n : ℕ) → is_leaf (suc (suc n)) ≡ false
above_leaf n = ne_eqb (suc (suc n)) 1 (λ e. omega arith)

strong_is : (n : ℕ) (e : Entry) → record_box (suc n) e ≡ strong_box n e
strong_is zero e = refl
strong_is (suc n) e = rw above_leaf

wide_is : (n : ℕ) (e : Entry) → union_box (suc n) e ≡ wide_box n e
wide_is zero e = refl
wide_is (suc n) e = rw above_leaf

weak_is : (n : ℕ) (e : Entry) → weak_gust (suc n) e ≡ weak_of n e
weak_is zero e = refl
weak_is (suc n) e = rw above_leaf

-- What is known of an entry's records: all lie in its box and count no more than it; its strongest and its union box are boxes of records.
pub record Bounds (ps : List Page) (q : Box) (n : ℕ) (e : Entry) : Type 0 where
  pub upper : best ps q n e ≤ score q e.place e.gust
  pub strong : score q (strong_box n e) e.gust ≤ best ps q n e
  pub wide : score q (wide_box n e) (weak_of n e) ≤ best ps q n e

module _ (ps : List Page) (q : Box) (n : ℕ) (es : List Entry) (some : 0 < length es) (each : Each (Bounds ps q n) es) where
  bests : ℕ
  bests = best_of (best ps q n) es

  at : (i : ℕ) → i < length es → Bounds ps q n (get_or es i zero_entry)
  at i h = each_at (Bounds ps q n) es zero_entry i h each

  greatest : FirstGreatest gust_of es (first_greatest gust_of es)
  greatest = first_greatest_lem gust_of es some

  largest : FirstGreatest (union_size (suc n)) es (first_greatest (union_size (suc n)) es)
  largest = first_greatest_lem (union_size (suc n)) es some

  upper_all : bests ≤ score q (covering es) (first_greatest gust_of es).gust
  unfolding bests
  upper_all =
      best_most (best ps q n) (score q (covering es) (first_greatest gust_of es).gust) es
      (each_of (λ e. best ps q n e ≤ score q (covering es) (first_greatest gust_of es).gust) es zero_entry
      (λ i h. le_trans (at i h).upper (score_within q (covering es) (get_or es i zero_entry).place (get_or es i zero_entry).gust (first_greatest gust_of es).gust (covering_covers es i h) (greatest.greatest i h))))

  strong_all : score q (record_box (suc n) (first_greatest gust_of es)) (first_greatest gust_of es).gust ≤ bests
  unfolding bests
  strong_all =
      let i = greatest.place in
      let h = greatest.within in
      let a : score q (record_box (suc n) (get_or es i zero_entry)) (get_or es i zero_entry).gust ≤ best_of (best ps q n) es = le_trans (rw strong_is (at i h).strong) (best_at (best ps q n) es i h) in
      subst (λ (m : Entry). score q (record_box (suc n) m) m.gust ≤ best_of (best ps q n) es) greatest.there a

  wide_all : score q (union_box (suc n) (first_greatest (union_size (suc n)) es)) (least_of (weak_gust (suc n)) es) ≤ bests
  unfolding bests
  wide_all =
      let i = largest.place in
      let h = largest.within in
      let l : least_of (weak_gust (suc n)) es ≤ weak_of n (get_or es i zero_entry) = subst (λ (m : ℕ). least_of (weak_gust (suc n)) es ≤ m) (weak_is n (get_or es i zero_entry)) (least_most (weak_gust (suc n)) es i h) in
      let b = le_trans (score_gust q (wide_box n (get_or es i zero_entry)) (least_of (weak_gust (suc n)) es) (weak_of n (get_or es i zero_entry)) l) (at i h).wide in
      let a : score q (union_box (suc n) (get_or es i zero_entry)) (least_of (weak_gust (suc n)) es) ≤ best_of (best ps q n) es = le_trans (rw wide_is b) (best_at (best ps q n) es i h) in
      subst (λ (m : Entry). score q (union_box (suc n) m) (least_of (weak_gust (suc n)) es) ≤ best_of (best ps q n) es) largest.there a

  above_bounds : (e : Entry) → in_use (page ps e.child) ≡ es → e ≡ summary e.child (suc n) es → Bounds ps q (suc n) e
  unfolding records bests summary
  above_bounds e p x =
      let f : best ps q (suc n) e ≡ best_of (best ps q n) es = best_flat (records ps n) (hit q) (in_use (page ps e.child)) ∙ ap (best_of (best ps q n)) p in
      let place : e.place ≡ covering es = ap (λ (y : Entry). y.place) x in
      let gust : e.gust ≡ (first_greatest gust_of es).gust = ap (λ (y : Entry). y.gust) x in
      let weak : e.weakest ≡ least_of (weak_gust (suc n)) es = ap (λ (y : Entry). y.weakest) x in
      let strong : e.strongest ≡ record_box (suc n) (first_greatest gust_of es) = ap (λ (y : Entry). y.strongest) x in
      let union : e.union ≡ union_box (suc n) (first_greatest (union_size (suc n)) es) = ap (λ (y : Entry). y.union) x in
      record {
        upper = rw (f, place, gust) upper_all;
        strong = rw (f, strong, gust) strong_all;
        wide = rw (f, union, weak) wide_all;
      }

pub bounds : (ps : List Page) (q : Box) (n : ℕ) (e : Entry) → Sound ps n e → Bounds ps q n e
unfolding records best_of
bounds ps q zero e h = record { upper = omega arith; strong = omega arith; wide = omega arith }
bounds ps q (suc n) e h =
    above_bounds ps q n (in_use (page ps e.child)) h.some
    (below (in_use (page ps e.child)) h.stands.each (bounds ps q n)) e refl (exact_entries ps n (Sound ps n) e h)
  where
    below : (es : List Entry) → Each (Sound ps n) es → ((e : Entry) → Sound ps n e → Bounds ps q n e) → Each (Bounds ps q n) es
    below [] p f = tt
    below (e ∷ es) p f = (f e p.0, below es p.1 f)
