-- A well-formed book is a sound tree in its store.
use Rattle.std.specs.Prelude.{Bool, ◌&&◌, ◌||◌, ◌≡◌, ltb, drop}
use Rattle.std.proofs.Math.Bool.{true, false, cond, true≢false}
use mathlib.Core.List.{List, [], ◌∷◌, map, flat_map}
use Rattle.std.proofs.Math.Path.{refl, sym, ap, subst}
use Rattle.std.proofs.Common.{◌∙◌}
use Rattle.std.proofs.Math.Logic.{⊎_elim}
use Prim.Native.Nat.{ℕ, zero, suc, ◌+◌, ◌-◌, ◌*◌, ◌≤◌, ◌<◌}
use Rattle.std.proofs.Math.Nat.{zero-mul, one-mul}
use native.Mathlib.Omega.{arith}
use borrow.Author.Tests.{leb-true, ltb-true, eqb-true, eq-eqb, ne_eqb}
use Rattle.std.proofs.Math.Dec.{leb, eqb}
use Rattle.std.proofs.Math.ListN.{length, replicate, get_or-eq_default}
use Rattle.ground.specs.Sums.{total, total_same, total_add}
use Rattle.ground.specs.Tests.{both, three, below_or_not}
use Rattle.pages.specs.Free.{is_free}
use Rattle.pages.specs.Layout.{page_entries, zero_entry, free_page, words_of_entry, words_of_entries, words_of_page}
use Rattle.pages.specs.Summary.{in_use, is_leaf, summary_of}
use Rattle.pages.specs.WordLaws.{same_words_lem}
use Rattle.pages.specs.Words.{every, all_zero}
use Rattle.pages.specs.declared.Entry.{Entry}
use Rattle.pages.specs.declared.Page.{Page}
use Rattle.pages.specs.declared.Small.{Small}
use Rattle.split.specs.SplitLaws.{Each}
use Rattle.wellformed.specs.Counting.{times_sum, sum_by_page, Each as EachPage}
use Rattle.wellformed.specs.Flat.{below, Lower, graded}
use Rattle.wellformed.specs.WellFormed.{every_below, times, page, child_of, walk, reached, held_records, root_stands, children_lower, reached_once, least_count, count_stands, leaf_entry_stands, is_exact, entries_stand, page_stands, most_accepted, counts_stand, leaf_entries}
use Rattle.rules.specs.Book.{Book}
use Rattle.rules.specs.Frame.{loads, root_load, root_records}
use Rattle.rules.specs.Lists.{each_both}
use Rattle.rules.specs.Moves.{only, free_at, free, Clean}
use Rattle.rules.specs.ReachLaws.{index_children, held_at, sum_at, inside_at, in_entries}
use Rattle.rules.specs.StrikeLaws.{standing}
use Rattle.rules.specs.Tree.{Stands, Sound}
use Rattle.rules.specs.WordFacts.{words_determine, zero_entries, page_form, in_use_length, every_each}

-- The conditions on pages, and that each page has eight entries.
pub record Conditions (ps : List Page) (s : Small) : Type 0 where
  pub root : root_stands ps s ≡ true
  pub lower : every_below (children_lower ps) (length ps) ≡ true
  pub reached : every_below (reached_once ps s) (length ps) ≡ true
  pub stand : every_below (λ p. page_stands ps s p (page ps p)) (length ps) ≡ true
  pub counts : counts_stand s (length (held_records ps s)) ≡ true
  pub eight : (p : ℕ) → p < length ps → length (page ps p).entries ≡ page_entries

-- each child of a list of entries
each_child : (P : ℕ → Type 0) (es : List Entry) → EachPage P (map child_of es) → Each (λ e. P e.child) es
each_child P [] p = tt
each_child P (e ∷ es) p = (p.0, each_child P es p.1)

module _ (ps : List Page) (s : Small) (c : Conditions ps s) where
  record Root : Type 0 where
    inside : s.root < length ps
    level : (page ps s.root).level ≡ s.height
    high : 1 ≤ s.height

  root_is : Root
  unfolding root_stands
  root_is =
      let h = three (ltb s.root (length ps)) (eqb (page ps s.root).level s.height) (leb 1 s.height) c.root in
      record { inside = ltb-true s.root (length ps) h.0; level = eqb-true (page ps s.root).level s.height h.1; high = leb-true 1 s.height h.2 }

  -- a page that is not free
  record Busy (p : ℕ) : Type 0 where
    least : least_count s p (page ps p).level ≤ (page ps p).count
    most : (page ps p).count ≤ page_entries
    entries : entries_stand ps (page ps p) ≡ true
    zeros : all_zero (words_of_entries (drop (page ps p).count (page ps p).entries)) ≡ true

  busy : (p : ℕ) → p < length ps → is_free (page ps p) ≡ false → Busy p
  unfolding page_stands count_stands
  busy p l f =
      let h = below (λ p. page_stands ps s p (page ps p)) p (length ps) c.stand l in
      let x = page ps p in
      let k = subst (λ (b : Bool). cond b (all_zero (words_of_page x)) (leb (least_count s p x.level) x.count && leb x.count page_entries && entries_stand ps x && all_zero (words_of_entries (drop x.count x.entries))) ≡ true) f h in
      let a = three (leb (least_count s p x.level) x.count && leb x.count page_entries) (entries_stand ps x) (all_zero (words_of_entries (drop x.count x.entries))) k in
      let d = both (leb (least_count s p x.level) x.count) (leb x.count page_entries) a.0 in
      record { least = leb-true (least_count s p x.level) x.count d.0; most = leb-true x.count page_entries d.1; entries = a.1; zeros = a.2 }

  by_level : (n p : ℕ) → p < length ps → (page ps p).level ≡ suc n → Busy p
  by_level n p l e = busy p l (ne_eqb (page ps p).level 0 (λ d. omega arith))

  -- the parts of a standing page
  stands_with : (n p : ℕ) → p < length ps → (page ps p).level ≡ suc n → Each (Sound ps n) (in_use (page ps p)) → Stands ps n p (Sound ps n)
  stands_with n p l e h =
      let b = by_level n p l e in
      record {
        inside = l;
        form = page_form (page ps p) (suc n) e (c.eight p l) b.most b.zeros;
        most = let k = in_use_length (page ps p) (c.eight p l) b.most in let m = b.most in omega arith;
        each = h;
      }

  leaf_each : (p : ℕ) → p < length ps → (page ps p).level ≡ 1 → Each (Sound ps 0) (in_use (page ps p))
  unfolding entries_stand
  leaf_each p l e =
      every_each leaf_entry_stands (in_use (page ps p))
      (subst (λ (b : Bool). cond b (every leaf_entry_stands (in_use (page ps p))) (every (is_exact ps) (in_use (page ps p))) ≡ true) (eq-eqb (page ps p).level 1 e) (by_level 0 p l e).entries)

  index_each : (n p : ℕ) → p < length ps → (page ps p).level ≡ suc (suc n) → Each (λ e. is_exact ps e ≡ true) (in_use (page ps p))
  unfolding entries_stand
  index_each n p l e =
      every_each (is_exact ps) (in_use (page ps p))
      (subst (λ (b : Bool). cond b (every leaf_entry_stands (in_use (page ps p))) (every (is_exact ps) (in_use (page ps p))) ≡ true) (ne_eqb (page ps p).level 1 (λ d. omega arith)) (by_level (suc n) p l e).entries)

  children_each : (n p : ℕ) → p < length ps → (page ps p).level ≡ suc (suc n) → Each (λ e. Lower ps (suc (suc n)) e.child) (in_use (page ps p))
  children_each n p l e =
      each_child (Lower ps (suc (suc n))) (in_use (page ps p))
      (subst (λ (k : ℕ). EachPage (Lower ps k) (map child_of (in_use (page ps p)))) e
      (subst (EachPage (Lower ps (page ps p).level)) (index_children ps p n e) (graded ps c.lower p l)))

  child_some : (n q : ℕ) → q < length ps → (page ps q).level ≡ suc n → suc n < s.height → 1 ≤ length (in_use (page ps q))
  child_some n q l e h =
      let b = by_level n q l e in
      let r = root_is.level in
      let d : eqb q s.root ≡ false = ne_eqb q s.root (λ x. let y : (page ps q).level ≡ (page ps s.root).level = ap (λ (i : ℕ). (page ps i).level) x in omega arith) in
      let m : 1 ≤ (page ps q).count = subst (λ (x : Bool). cond x (cond (is_leaf (page ps q).level) 0 2) 1 ≤ (page ps q).count) d b.least in
      let k = in_use_length (page ps q) (c.eight q l) b.most in
      omega arith

  stands_from : (n p : ℕ) → p < length ps → (page ps p).level ≡ suc n → suc n ≤ s.height → Stands ps n p (Sound ps n)
  unfolding is_exact
  stands_from zero p l e h = stands_with zero p l e (leaf_each p l e)
  stands_from (suc n) p l e h =
      stands_with (suc n) p l e
      (go (in_use (page ps p)) (each_both (λ e. is_exact ps e ≡ true) (λ e. Lower ps (suc (suc n)) e.child) (in_use (page ps p)) (index_each n p l e) (children_each n p l e)) (stands_from n))
    where
      go : (es : List Entry) → Each (λ e. (is_exact ps e ≡ true) × Lower ps (suc (suc n)) e.child) es
          → ((q : ℕ) → q < length ps → (page ps q).level ≡ suc n → suc n ≤ s.height → Stands ps n q (Sound ps n)) → Each (Sound ps (suc n)) es
      go [] x f = tt
      go (e ∷ es) x f =
          let k = x.0.1 in
          let d : (page ps e.child).level ≡ suc n = let y = k.lower in omega arith in (
            record {
              stands = f e.child k.inside d (omega arith);
              some = child_some n e.child k.inside d (omega arith);
              exact = words_determine e (summary_of e.child (page ps e.child)) (same_words_lem (words_of_entry e) (words_of_entry (summary_of e.child (page ps e.child))) x.0.0);
            },
            go es x.1 f,
          )

  levels : ℕ
  levels = s.height - 1

  height_is : s.height ≡ suc levels
  unfolding levels
  height_is = let h = root_is.high in omega arith

  tree : Stands ps levels s.root (Sound ps levels)
  tree = stands_from levels s.root root_is.inside (root_is.level ∙ height_is) (let h = height_is in omega arith)

  wide : 1 ≤ levels → 2 ≤ length (in_use (page ps s.root))
  wide h =
      let e = root_is.level ∙ height_is in
      let b = by_level levels s.root root_is.inside e in
      let x : eqb s.root s.root ≡ true = eq-eqb s.root s.root refl in
      let y : is_leaf (page ps s.root).level ≡ false = ne_eqb (page ps s.root).level 1 (λ d. omega arith) in
      let m : 2 ≤ (page ps s.root).count =
      subst (λ (z : Bool). cond z 0 2 ≤ (page ps s.root).count) y (subst (λ (z : Bool). cond z (cond (is_leaf (page ps s.root).level) 0 2) 1 ≤ (page ps s.root).count) x b.least) in
      let k = in_use_length (page ps s.root) (c.eight s.root root_is.inside) b.most in
      omega arith

  -- free pages are all 0
  clean : Clean ps
  unfolding page_stands words_of_page every
  clean q f = ⊎_elim within (λ (l : length ps ≤ q). get_or-eq_default ps free_page l) (below_or_not q (length ps))
    where
      within : q < length ps → page ps q ≡ free_page
      within l =
          let x = page ps q in
          let h = below (λ p. page_stands ps s p (page ps p)) q (length ps) c.stand l in
          let k = subst (λ (b : Bool). cond b (all_zero (words_of_page x)) (count_stands s q x && entries_stand ps x && all_zero (words_of_entries (drop x.count x.entries))) ≡ true) f h in
          let a = both (eqb x.level 0) (eqb x.count 0 && every (λ y. eqb y 0) (words_of_entries x.entries)) k in
          let b = both (eqb x.count 0) (every (λ y. eqb y 0) (words_of_entries x.entries)) a.1 in
          let u = eqb-true x.level 0 a.0 in
          let v = eqb-true x.count 0 b.0 in
          let w = zero_entries x.entries b.1 ∙ ap (λ (n : ℕ). replicate n zero_entry) (c.eight q l) in
          λ i. record { level = u i; count = v i; entries = w i }

  -- every page is free or reached once
  walked : List ℕ
  walked = walk ps (suc levels) s.root

  walked_is : reached ps s ≡ walked
  unfolding walked
  walked_is = ap (λ (n : ℕ). walk ps n s.root) height_is

  once : (q : ℕ) → q < length ps → is_free (page ps q) ≡ false → times q walked ≡ 1
  unfolding reached_once
  once q l f =
      let h = below (reached_once ps s) q (length ps) c.reached l in
      let k = eqb-true (times q (reached ps s)) 1 (subst (λ (b : Bool). b || eqb (times q (reached ps s)) 1 ≡ true) f h) in
      sym (ap (times q) walked_is) ∙ k

  never : (q : ℕ) → is_free (page ps q) ≡ true → times q walked ≡ 0
  unfolding walked
  never q f = ⊎_elim (λ (k : 0 < times q walked). absurd (counted k)) (λ (k : times q walked ≤ 0). omega arith) (below_or_not 0 (times q walked))
    where
      counted : 0 < times q walked → ⊥
      counted k =
          let a = times_sum q walked in
          let b = sum_at ps levels (only q) s.root tree in
          by_test (eqb q s.root) refl (omega arith)
        where
          by_test : (b : Bool) → eqb q s.root ≡ b → 0 < only q s.root + loads ps levels (in_use (page ps s.root)) (only q) → ⊥
          by_test true d k =
              let e = eqb-true q s.root d in
              true≢false (sym f ∙ ap (λ (i : ℕ). is_free (page ps i)) e ∙ standing ps levels s.root (Sound ps levels) tree)
          by_test false d k =
              let i = in_entries ps q levels (in_use (page ps s.root)) tree.each (let z : only q s.root ≡ 0 = rw d in omega arith) in
              true≢false (sym f ∙ standing ps i.levels q (Sound ps i.levels) i.stands)

  whole : (h : ℕ → ℕ) → free ps h + root_load ps levels s.root h ≡ total h (length ps)
  unfolding free walked
  whole h =
      let a = sum_at ps levels h s.root tree in
      let b = sum_by_page h (length ps) walked (inside_at ps levels s.root tree) in
      let d = total_add (free_at ps h) (λ q. times q walked * h q) (length ps) in
      let e = total_same (λ q. free_at ps h q + times q walked * h q) h (length ps) (λ q l. each q l (is_free (page ps q)) refl) in
      omega arith
    where
      each : (q : ℕ) → q < length ps → (b : Bool) → is_free (page ps q) ≡ b → free_at ps h q + times q walked * h q ≡ h q
      each q l true f = let z = never q f in rw (f, z) (omega (arith, zero-mul (h q)))
      each q l false f = let z = once q l f in rw (f, z) (omega (arith, one-mul (h q)))

  held_is : held_records ps s ≡ root_records ps levels s.root
  unfolding held_records walked
  held_is = ap (λ (xs : List ℕ). flat_map (λ p. leaf_entries (page ps p)) xs) walked_is ∙ held_at ps levels s.root tree

  pub book : Book ps s
  unfolding counts_stand
  book =
      let k = both (leb s.accepted most_accepted) (eqb (length (held_records ps s) + s.struck + s.covered) s.accepted) c.counts in
      record {
        levels = levels;
        height = height_is;
        tree = tree;
        wide = wide;
        whole = whole;
        clean = clean;
        few = leb-true s.accepted most_accepted k.0;
        counts = let a = ap length held_is in let b = eqb-true (length (held_records ps s) + s.struck + s.covered) s.accepted k.1 in omega arith;
      }
