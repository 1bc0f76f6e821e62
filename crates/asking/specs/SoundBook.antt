-- A well-formed book as the search meets it: from the root down each page stands at its level, each leaf box is legal, and each index entry is exact for its child.
use Prim.Native.Nat.{ℕ, zero, suc, ◌*◌, ◌≤◌, ◌<◌}
use Rattle.std.specs.Prelude.{Bool, ◌&&◌, List, [], ◌∷◌, map, ◌≡◌, refl, leb, ltb, drop}
use Rattle.std.proofs.Math.Bool.{true, false, cond}
use Rattle.std.proofs.lemmas.Bool.{false≢true}
use Rattle.std.proofs.Math.Logic.{⊎_elim}
use Rattle.std.proofs.Common.{sym, ◌∙◌, arith}
use Rattle.std.proofs.Math.Path.{ap, subst}
use borrow.Author.Tests.{leb-true, le-leb, ltb-true, eqb-true, eq-eqb, ne_eqb}
use Rattle.std.proofs.Math.Dec.{eqb}
use Rattle.std.proofs.Math.ListN.{length}
use Rattle.ground.specs.Boxes.{legal, gust_limit}
use Rattle.ground.specs.Sums.{total}
use Rattle.ground.specs.Tests.{both, three, either, orders}
use Rattle.pages.specs.Free.{is_free}
use Rattle.pages.specs.Layout.{page_entries, table_fits, box_at, entry_at, words_of_box, words_of_entry, words_of_entries, words_of_page, pages_of}
use Rattle.pages.specs.LayoutLaws.{pages_at, page_eight, pages_length}
use Rattle.pages.specs.Summary.{in_use, is_leaf, summary_of}
use Rattle.pages.specs.Words.{every, same_words, all_zero}
use Rattle.pages.specs.declared.Entry.{Entry}
use Rattle.pages.specs.declared.Page.{Page}
use Rattle.pages.specs.declared.Small.{Small}
use Rattle.wellformed.specs.Counting.{sum_of, Each, sum_by_page}
use Rattle.wellformed.specs.Flat.{below, each_map, each_flat, Lower, Graded, graded}
use Rattle.wellformed.specs.WellFormed.{every_below, times, page, child_of, children, walk, reached, held_records, root_stands, children_lower, reached_once, least_count, count_stands, leaf_entry_stands, is_exact, entries_stand, page_stands, counts_stand, pages_stand, well_formed}
use Rattle.asking.specs.ExactEntries.{All, all_map}

pub record Standing (ps : List Page) (level p : ℕ) : Type 0 where
  pub inside : p < length ps
  pub same : (page ps p).level ≡ level
  pub few : (page ps p).count ≤ page_entries
  pub eight : length (page ps p).entries ≡ page_entries

-- the tree below page p of a level
abbrev pub Sound : List Page → ℕ → ℕ → Type 0
Sound ps zero p = ⊥
Sound ps (suc zero) p = Standing ps 1 p × All (λ e. legal e.place ≡ true) (in_use (page ps p))
Sound ps (suc (suc n)) p =
    Standing ps (suc (suc n)) p
    × All (λ e. (e ≡ summary_of e.child (page ps e.child)) × (1 ≤ (page ps e.child).count) × Sound ps (suc n) e.child) (in_use (page ps p))

-- an entry is known by its words
entry_read : (e : Entry) → entry_at (words_of_entry e) 0 ≡ e
unfolding entry_at box_at words_of_entry words_of_box
entry_read e = refl

words_determine : (a b : Entry) → words_of_entry a ≡ words_of_entry b → a ≡ b
words_determine a b h = sym (entry_read a) ∙ ap (λ w. entry_at w 0) h ∙ entry_read b

same_words_lem : (xs ys : List ℕ) → same_words xs ys ≡ true → xs ≡ ys
unfolding same_words
same_words_lem [] [] h = refl
same_words_lem [] (y ∷ ys) h = absurd (false≢true h)
same_words_lem (x ∷ xs) [] h = absurd (false≢true h)
same_words_lem (x ∷ xs) (y ∷ ys) h =
    let k = both (eqb x y) (same_words xs ys) h in
    let p = eqb-true x y k.0 in
    let r = same_words_lem xs ys k.1 in
    λ i. p i ∷ r i

-- tests of all entries, as facts on each
all_entries : (f : Entry → Bool) (es : List Entry) → every f es ≡ true → All (λ e. f e ≡ true) es
unfolding every
all_entries f [] h = tt
all_entries f (e ∷ es) h = let k = both (f e) (every f es) h in (k.0, all_entries f es k.1)

all_both : (P Q : Entry → Type 0) (es : List Entry) → All P es → All Q es → All (λ e. P e × Q e) es
all_both P Q [] h k = tt
all_both P Q (e ∷ es) h k = ((h.0, k.0), all_both P Q es h.1 k.1)

all_children : (P : ℕ → Type 0) (es : List Entry) → Each P (map child_of es) → All (λ e. P e.child) es
all_children P [] h = tt
all_children P (e ∷ es) h = (h.0, all_children P es h.1)

-- the book, from its conditions
pub record Book (ps : List Page) (s : Small) : Type 0 where
  pub inside : s.root < length ps
  pub same : (page ps s.root).level ≡ s.height
  pub high : 1 ≤ s.height
  pub steps : Graded ps
  pub once : (p : ℕ) → p < length ps → reached_once ps s p ≡ true
  pub stands : (p : ℕ) → p < length ps → page_stands ps s p (page ps p) ≡ true
  pub eight : (p : ℕ) → p < length ps → length (page ps p).entries ≡ page_entries

pub book : (t : List ℕ) (s : Small) → well_formed t s ≡ true → Book (pages_of t) s
unfolding well_formed pages_stand root_stands
book t s h =
    let ps = pages_of t in
    let w = both (table_fits t) (pages_stand ps s) h in
    let a = both (root_stands ps s && every_below (children_lower ps) (length ps) && every_below (reached_once ps s) (length ps) && every_below (λ p. page_stands ps s p (page ps p)) (length ps)) (counts_stand s (length (held_records ps s))) w.1 in
    let b = both (root_stands ps s && every_below (children_lower ps) (length ps) && every_below (reached_once ps s) (length ps)) (every_below (λ p. page_stands ps s p (page ps p)) (length ps)) a.0 in
    let c = three (root_stands ps s) (every_below (children_lower ps) (length ps)) (every_below (reached_once ps s) (length ps)) b.0 in
    let r = three (ltb s.root (length ps)) (eqb (page ps s.root).level s.height) (leb 1 s.height) c.0 in
    let n = pages_length t in
    record {
      inside = ltb-true s.root (length ps) r.0;
      same = eqb-true (page ps s.root).level s.height r.1;
      high = leb-true 1 s.height r.2;
      steps = graded ps c.1;
      once = λ p l. below (reached_once ps s) p (length ps) c.2 l;
      stands = λ p l. below (λ x. page_stands ps s x (page ps x)) p (length ps) b.1 l;
      eight = λ p l. ap (λ (x : Page). length x.entries) (pages_at t p (omega arith)) ∙ page_eight t p;
    }

-- counting
length_sum : (xs : List ℕ) → length xs ≡ sum_of (λ q. 1) xs
unfolding sum_of
length_sum [] = refl
length_sum (x ∷ xs) = let h = length_sum xs in omega arith

bounded : (f : ℕ → ℕ) (n : ℕ) → ((i : ℕ) → i < n → f i ≤ 1) → total f n ≤ n
unfolding total
bounded f zero h = omega arith
bounded f (suc n) h = let g = bounded f n (λ i l. h i (omega arith)) in omega (arith, h n (omega arith))

absent : (P : ℕ → Type 0) (x : ℕ) (cs : List ℕ) → Each P cs → (P x → ⊥) → times x cs ≡ 0
unfolding times
absent P x [] h n = refl
absent P x (c ∷ cs) h n =
    let f : eqb x c ≡ false = ne_eqb x c (λ e. n (subst P (sym e) h.0)) in
    rw f (omega (arith, absent P x cs h.1 n))

module _ (ps : List Page) (s : Small) (k : Book ps s) where
  -- a page that is not free: its count and its entries
  in_order_lem : (p : ℕ) → p < length ps → 1 ≤ (page ps p).level → (count_stands s p (page ps p) ≡ true) × (entries_stand ps (page ps p) ≡ true)
  unfolding page_stands
  in_order_lem p l n =
      let f : is_free (page ps p) ≡ false = ne_eqb (page ps p).level 0 (λ e. omega arith) in
      let h = subst (λ b. cond b (all_zero (words_of_page (page ps p))) (count_stands s p (page ps p) && entries_stand ps (page ps p) && all_zero (words_of_entries (drop (page ps p).count (page ps p).entries))) ≡ true) f (k.stands p l) in
      let g = three (count_stands s p (page ps p)) (entries_stand ps (page ps p)) (all_zero (words_of_entries (drop (page ps p).count (page ps p).entries))) h in
      (g.0, g.1)

  standing : (level p : ℕ) → p < length ps → (page ps p).level ≡ level → 1 ≤ level → Standing ps level p
  unfolding count_stands
  standing level p l e n =
      let h = in_order_lem p l (omega arith) in
      let c = orders (least_count s p (page ps p).level) (page ps p).count (page ps p).count page_entries h.0 in
      record { inside = l; same = e; few = c.1; eight = k.eight p l }

  -- below the root no page is empty
  child_count : (p : ℕ) → p < length ps → 1 ≤ (page ps p).level → (page ps p).level < s.height → 1 ≤ (page ps p).count
  unfolding count_stands
  child_count p l n d =
      let h = in_order_lem p l n in
      let c = orders (least_count s p (page ps p).level) (page ps p).count (page ps p).count page_entries h.0 in
      let r : eqb p s.root ≡ false = ne_eqb p s.root (λ e. let f = ap (λ x. (page ps x).level) e in omega (arith, f, k.same)) in
      subst (λ b. cond b (cond (is_leaf (page ps p).level) 0 2) 1 ≤ (page ps p).count) r c.0

  leaf_entries_lem : (p : ℕ) → p < length ps → (page ps p).level ≡ 1 → All (λ e. legal e.place ≡ true) (in_use (page ps p))
  unfolding entries_stand leaf_entry_stands
  leaf_entries_lem p l e =
      let h = in_order_lem p l (omega arith) in
      let f : is_leaf (page ps p).level ≡ true = eq-eqb (page ps p).level 1 e in
      let g = subst (λ b. cond b (every leaf_entry_stands (in_use (page ps p))) (every (is_exact ps) (in_use (page ps p))) ≡ true) f h.1 in
      all_map (λ e. leaf_entry_stands e ≡ true) (λ e. legal e.place ≡ true) (in_use (page ps p)) (λ e m. (three (legal e.place) (leb e.gust gust_limit) (all_zero (drop 7 (words_of_entry e))) m).0) (all_entries leaf_entry_stands (in_use (page ps p)) g)

  exact_entries : (p : ℕ) → p < length ps → 2 ≤ (page ps p).level → All (λ e. e ≡ summary_of e.child (page ps e.child)) (in_use (page ps p))
  unfolding entries_stand is_exact
  exact_entries p l n =
      let h = in_order_lem p l (omega arith) in
      let f : is_leaf (page ps p).level ≡ false = ne_eqb (page ps p).level 1 (λ e. omega arith) in
      let g = subst (λ b. cond b (every leaf_entry_stands (in_use (page ps p))) (every (is_exact ps) (in_use (page ps p))) ≡ true) f h.1 in
      all_map (λ e. is_exact ps e ≡ true) (λ e. e ≡ summary_of e.child (page ps e.child)) (in_use (page ps p))
      (λ e m. words_determine e (summary_of e.child (page ps e.child)) (same_words_lem (words_of_entry e) (words_of_entry (summary_of e.child (page ps e.child))) m))
      (all_entries (is_exact ps) (in_use (page ps p)) g)

  lower_children : (p : ℕ) → p < length ps → 2 ≤ (page ps p).level → All (λ e. Lower ps (page ps p).level e.child) (in_use (page ps p))
  unfolding children
  lower_children p l n =
      all_children (Lower ps (page ps p).level) (in_use (page ps p))
      (subst (λ b. Each (Lower ps (page ps p).level) (cond b (map child_of (in_use (page ps p))) [])) (le-leb 2 (page ps p).level n) (k.steps p l))

  -- so all pages below a page of its level are sound
  pub sound : (n p : ℕ) → p < length ps → (page ps p).level ≡ n → 1 ≤ n → n ≤ s.height → Sound ps n p
  sound zero p l e o h = absurd (omega arith)
  sound (suc zero) p l e o h = (standing 1 p l e o, leaf_entries_lem p l e)
  sound (suc (suc n)) p l e o h = (
    standing (suc (suc n)) p l e o,
    all_map (λ e. (e ≡ summary_of e.child (page ps e.child)) × Lower ps (page ps p).level e.child)
        (λ e. (e ≡ summary_of e.child (page ps e.child)) × (1 ≤ (page ps e.child).count) × Sound ps (suc n) e.child) (in_use (page ps p))
        (λ x m. (m.0, child_count x.child m.1.inside (omega (arith, m.1.lower, m.1.above)) (omega (arith, m.1.lower)), sound (suc n) x.child m.1.inside (omega (arith, m.1.lower)) (omega arith) (omega arith)))
        (all_both (λ e. e ≡ summary_of e.child (page ps e.child)) (λ e. Lower ps (page ps p).level e.child) (in_use (page ps p)) (exact_entries p l (omega arith)) (lower_children p l (omega arith))),
  )

  pub sound_root : Sound ps s.height s.root
  sound_root = sound s.height s.root k.inside k.same k.high (omega arith)

  pub root_count : least_count s s.root s.height ≤ (page ps s.root).count
  unfolding count_stands
  root_count =
      let o = k.high in
      let q = k.same in
      let h = in_order_lem s.root k.inside (omega arith) in
      let c = orders (least_count s s.root (page ps s.root).level) (page ps s.root).count (page ps s.root).count page_entries h.0 in
      rw (← k.same) c.0

  -- the walk from the root meets no free page, and no page twice: it is no longer than the table
  reached_inside : (n p : ℕ) → p < length ps → (page ps p).level ≡ n → Each (λ q. (q < length ps) × (1 ≤ (page ps q).level)) (walk ps n p)
  unfolding walk
  reached_inside zero p l e = tt
  reached_inside (suc n) p l e = (
    (l, omega arith),
    each_flat (λ q. (q < length ps) × (1 ≤ (page ps q).level)) (walk ps n) (children (page ps p))
        (each_map (Lower ps (page ps p).level) (λ c. Each (λ q. (q < length ps) × (1 ≤ (page ps q).level)) (walk ps n c)) (children (page ps p))
        (λ c m. reached_inside n c m.inside (omega (arith, m.lower))) (k.steps p l)),
  )

  once : (q : ℕ) → q < length ps → Each (λ q. (q < length ps) × (1 ≤ (page ps q).level)) (reached ps s) → times q (reached ps s) * 1 ≤ 1
  unfolding reached_once
  once q l all =
      ⊎_elim
      (λ (f : is_free (page ps q) ≡ true).
      let z = eqb-true (page ps q).level 0 f in
      let a = absent (λ q. (q < length ps) × (1 ≤ (page ps q).level)) q (reached ps s) all (λ m. omega (arith, m.1)) in
      omega arith)
      (λ (f : eqb (times q (reached ps s)) 1 ≡ true). let o = eqb-true (times q (reached ps s)) 1 f in omega arith)
      (either (is_free (page ps q)) (eqb (times q (reached ps s)) 1) (k.once q l))

  pub reached_length : length (reached ps s) ≤ length ps
  reached_length =
      let all = reached_inside s.height s.root k.inside k.same in
      let e = sum_by_page (λ q. 1) (length ps) (reached ps s) (each_map (λ q. (q < length ps) × (1 ≤ (page ps q).level)) (λ q. q < length ps) (reached ps s) (λ q m. m.0) all) in
      let b = bounded (λ q. times q (reached ps s) * 1) (length ps) (λ q l. once q l all) in
      omega (arith, e, b, length_sum (reached ps s))
