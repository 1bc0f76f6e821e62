-- A sound tree in its store is a well-formed book.
use Rattle.std.specs.Prelude.{Bool, ◌&&◌, ◌≡◌}
use Rattle.std.proofs.Math.Bool.{true, false, cond}
use mathlib.Core.List.{List, [], ◌∷◌, map, flat_map}
use Rattle.std.proofs.Math.Path.{refl, ap, subst}
use Rattle.std.proofs.Common.{sym, ◌∙◌, ⊎_elim, arith, le-leb, lt-ltb, eqb-true, eq-eqb, ne_eqb}
use Prim.Native.Nat.{ℕ, zero, suc, ◌+◌, ◌-◌, ◌≤◌, ◌<◌}
use Rattle.std.proofs.lemmas.Bool.{eqb-false}
use Rattle.std.proofs.Math.Dec.{leb, ltb, eqb}
use Rattle.std.proofs.Math.ListN.{length, replicate, drop}
use Rattle.std.proofs.Math.Seq.{drop_at}
use Rattle.ground.specs.Sums.{total, total_zero}
use Rattle.ground.specs.Tests.{joint, joint_three, below_or_not}
use Rattle.pages.specs.Free.{is_free}
use Rattle.pages.specs.Layout.{page_entries, zero_entry, words_of_entry, words_of_entries, words_of_page}
use Rattle.pages.specs.Summary.{in_use, is_leaf}
use Rattle.pages.specs.Words.{every, all_zero, same_words}
use Rattle.pages.specs.declared.Entry.{Entry}
use Rattle.pages.specs.declared.Page.{Page}
use Rattle.pages.specs.declared.Small.{Small}
use Rattle.split.specs.Split.{page_from}
use Rattle.split.specs.SplitLaws.{Each, page_from_length}
use Rattle.wellformed.specs.Counting.{times_sum}
use Rattle.wellformed.specs.Flat.{below_so}
use Rattle.wellformed.specs.WellFormed.{times, page, child_of, children, walk, reached, leaf_entries, held_records, root_stands, is_lower, children_lower, reached_once, least_count, count_stands, leaf_entry_stands, is_exact, entries_stand, page_stands, most_accepted, counts_stand}
use Rattle.rules.specs.Book.{Book}
use Rattle.rules.specs.CollapseLaws.{count_is}
use Rattle.rules.specs.FromWellFormed.{Conditions}
use Rattle.rules.specs.Frame.{root_load, root_records}
use Rattle.rules.specs.Lists.{each_imp}
use Rattle.rules.specs.Moves.{only, free, free_only}
use Rattle.rules.specs.ReachLaws.{leaf_children, index_children, held_at, sum_at, InTree, in_entries}
use Rattle.rules.specs.StrikeLaws.{standing}
use Rattle.rules.specs.Tree.{Stands, Sound, level_of}
use Rattle.rules.specs.WordFacts.{same_words_self, zeros_zero, free_zero, each_every}

total_one : (q n : ℕ) → q < n → total (only q) n ≡ 1
unfolding total
total_one q zero h = absurd (omega arith)
total_one q (suc n) h = by_test (eqb q n) refl (total_one q n)
  where
    by_test : (b : Bool) → eqb q n ≡ b → (q < n → total (only q) n ≡ 1) → total (only q) n + cond (eqb q n) 1 0 ≡ 1
    by_test true e f =
        let d : q ≡ n = eqb-true q n e in
        let z = total_zero (only q) n (λ i l. ap (λ (b : Bool). cond b 1 0) (ne_eqb q i (λ x. omega arith))) in
        rw e (omega arith)
    by_test false e f = let d = eqb-false q n e in let o = f (⊎_elim (λ (x : q < n). x) (λ (x : n ≤ q). absurd (d (omega arith))) (below_or_not q n)) in rw e (omega arith)

-- a standing page meets the conditions on its own words
module _ (ps : List Page) (m p : ℕ) (h : Stands ps m p (Sound ps m)) where
  pub standing_eight : length (page ps p).entries ≡ page_entries
  standing_eight = ap (λ (x : Page). length x.entries) h.form ∙ page_from_length (suc m) (in_use (page ps p)) h.most

  standing_zeros : all_zero (words_of_entries (drop (page ps p).count (page ps p).entries)) ≡ true
  unfolding page_from
  standing_zeros =
      let es = in_use (page ps p) in
      let k = page_entries - length es in
      let d : drop (page ps p).count (page ps p).entries ≡ replicate k zero_entry =
      ap (λ (x : Page). drop x.count x.entries) h.form ∙ drop_at es (replicate k zero_entry) (length es) refl in
      subst (λ (l : List Entry). all_zero (words_of_entries l) ≡ true) (sym d) (zeros_zero k)

  standing_children : children_lower ps p ≡ true
  unfolding children_lower every is_lower
  standing_children = by_level m h
    where
      lowers : (n l : ℕ) (es : List Entry) → l ≡ suc (suc n) → Each (Sound ps (suc n)) es → every (λ c. ltb c (length ps) && eqb ((page ps c).level + 1) l) (map child_of es) ≡ true
      lowers n l [] d x = refl
      lowers n l (e ∷ es) d x =
          let s = x.0.stands in
          let k = level_of ps n e.child (Sound ps n) s in
          joint (ltb e.child (length ps) && eqb ((page ps e.child).level + 1) l) (every (λ c. ltb c (length ps) && eqb ((page ps c).level + 1) l) (map child_of es))
          (joint (ltb e.child (length ps)) (eqb ((page ps e.child).level + 1) l) (lt-ltb e.child (length ps) s.inside) (eq-eqb ((page ps e.child).level + 1) l (omega arith)))
          (lowers n l es d x.1)

      by_level : (m : ℕ) → Stands ps m p (Sound ps m) → every (λ c. ltb c (length ps) && eqb ((page ps c).level + 1) (page ps p).level) (children (page ps p)) ≡ true
      by_level zero h = rw (leaf_children ps p (level_of ps zero p (Sound ps zero) h))
      by_level (suc n) h = let l = level_of ps (suc n) p (Sound ps (suc n)) h in rw (index_children ps p n l) (lowers n (page ps p).level (in_use (page ps p)) l h.each)

  standing_entries : entries_stand ps (page ps p) ≡ true
  unfolding entries_stand is_exact
  standing_entries = by_level m h
    where
      by_level : (m : ℕ) → Stands ps m p (Sound ps m) → cond (is_leaf (page ps p).level) (every leaf_entry_stands (in_use (page ps p))) (every (is_exact ps) (in_use (page ps p))) ≡ true
      by_level zero h =
          let l = level_of ps zero p (Sound ps zero) h in
          rw (eq-eqb (page ps p).level 1 l) (each_every leaf_entry_stands (in_use (page ps p)) h.each)
      by_level (suc n) h =
          let l = level_of ps (suc n) p (Sound ps (suc n)) h in
          rw (ne_eqb (page ps p).level 1 (λ d. omega arith))
          (each_every (is_exact ps) (in_use (page ps p)) (each_imp (Sound ps (suc n)) (λ e. is_exact ps e ≡ true) (in_use (page ps p))
          (λ e x. subst (λ (f : Entry). same_words (words_of_entry e) (words_of_entry f) ≡ true) x.exact (same_words_self (words_of_entry e))) h.each))

  standing_page : (s : Small) → least_count s p (page ps p).level ≤ length (in_use (page ps p)) → page_stands ps s p (page ps p) ≡ true
  unfolding page_stands count_stands
  standing_page s least =
      let x = page ps p in
      let c = count_is ps m p (Sound ps m) h in
      rw (standing ps m p (Sound ps m) h)
      (joint_three (leb (least_count s p x.level) x.count && leb x.count page_entries) (entries_stand ps x) (all_zero (words_of_entries (drop x.count x.entries)))
      (joint (leb (least_count s p x.level) x.count) (leb x.count page_entries) (le-leb (least_count s p x.level) x.count (omega arith)) (le-leb x.count page_entries (let y = h.most in omega arith)))
      standing_entries standing_zeros)

module _ (ps : List Page) (s : Small) (b : Book ps s) where
  -- a page of the table is free, or it is the root, or it stands below it
  pub data Where (p : ℕ) : Type 0 where
    unused : is_free (page ps p) ≡ true → Where p
    root : p ≡ s.root → Where p
    lower : eqb p s.root ≡ false → InTree ps p → Where p

  loaded : (p : ℕ) → p < length ps → is_free (page ps p) ≡ false → root_load ps b.levels s.root (only p) ≡ 1
  loaded p l f = let a = b.whole (only p) in let c = free_only ps p f in let d = total_one p (length ps) l in omega arith

  pub where_is : (p : ℕ) → p < length ps → Where p
  where_is p l = by_free (is_free (page ps p)) refl
    where
      by_root : (x : Bool) → eqb p s.root ≡ x → is_free (page ps p) ≡ false → Where p
      by_root true e f = root (eqb-true p s.root e)
      by_root false e f =
          lower e (in_entries ps p b.levels (in_use (page ps s.root)) b.tree.each
          (let a = loaded p l f in let z : only p s.root ≡ 0 = rw e in omega arith))

      by_free : (x : Bool) → is_free (page ps p) ≡ x → Where p
      by_free true e = unused e
      by_free false e = by_root (eqb p s.root) refl e

  free_page_of : (p : ℕ) → is_free (page ps p) ≡ true → (page ps p).level ≡ 0
  free_page_of p f = eqb-true (page ps p).level 0 f

  pub book_eight : (p : ℕ) → p < length ps → length (page ps p).entries ≡ page_entries
  book_eight p l = by_place (where_is p l)
    where
      by_place : Where p → length (page ps p).entries ≡ page_entries
      by_place (unused f) = ap (λ (x : Page). length x.entries) (b.clean p f)
      by_place (root e) = ap (λ (i : ℕ). length (page ps i).entries) e ∙ standing_eight ps b.levels s.root b.tree
      by_place (lower d i) = standing_eight ps i.levels p i.stands

  children_lower_lem : (p : ℕ) → p < length ps → children_lower ps p ≡ true
  unfolding children_lower children every
  children_lower_lem p l = by_place (where_is p l)
    where
      by_place : Where p → children_lower ps p ≡ true
      by_place (unused f) = let z : (page ps p).level ≡ 0 = free_page_of p f in rw z
      by_place (root e) = subst (λ (i : ℕ). children_lower ps i ≡ true) (sym e) (standing_children ps b.levels s.root b.tree)
      by_place (lower d i) = standing_children ps i.levels p i.stands

  least_root_lem : least_count s s.root (page ps s.root).level ≤ length (in_use (page ps s.root))
  least_root_lem = rw (eq-eqb s.root s.root refl) (by_level b.levels (level_of ps b.levels s.root (Sound ps b.levels) b.tree) b.wide)
    where
      by_level : (m : ℕ) → (page ps s.root).level ≡ suc m → (1 ≤ m → 2 ≤ length (in_use (page ps s.root))) → cond (is_leaf (page ps s.root).level) 0 2 ≤ length (in_use (page ps s.root))
      by_level zero e w = rw (eq-eqb (page ps s.root).level 1 e) (omega arith)
      by_level (suc m) e w = rw (ne_eqb (page ps s.root).level 1 (λ d. omega arith)) (w (omega arith))

  page_stands_lem : (p : ℕ) → p < length ps → page_stands ps s p (page ps p) ≡ true
  unfolding page_stands
  page_stands_lem p l = by_place (where_is p l)
    where
      by_place : Where p → page_stands ps s p (page ps p) ≡ true
      by_place (unused f) = rw f (subst (λ (x : Page). all_zero (words_of_page x) ≡ true) (sym (b.clean p f)) free_zero)
      by_place (root e) = subst (λ (i : ℕ). page_stands ps s i (page ps i) ≡ true) (sym e) (standing_page ps b.levels s.root b.tree s least_root_lem)
      by_place (lower d i) = standing_page ps i.levels p i.stands s (rw d i.some)

  walked_is : reached ps s ≡ walk ps (suc b.levels) s.root
  walked_is = ap (λ (n : ℕ). walk ps n s.root) b.height

  once : (p : ℕ) → p < length ps → reached_once ps s p ≡ true
  unfolding reached_once
  once p l = by_free (is_free (page ps p)) refl
    where
      by_free : (x : Bool) → is_free (page ps p) ≡ x → reached_once ps s p ≡ true
      by_free true e = rw e
      by_free false e =
          let a = ap (times p) walked_is ∙ times_sum p (walk ps (suc b.levels) s.root) ∙ sum_at ps b.levels (only p) s.root b.tree ∙ loaded p l e in
          rw e (eq-eqb (times p (reached ps s)) 1 a)

  -- the records held are the tree's
  pub book_held : held_records ps s ≡ root_records ps b.levels s.root
  unfolding held_records
  book_held = ap (flat_map (λ p. leaf_entries (page ps p))) walked_is ∙ held_at ps b.levels s.root b.tree

  root_stands_lem : root_stands ps s ≡ true
  unfolding root_stands
  root_stands_lem =
      let l = level_of ps b.levels s.root (Sound ps b.levels) b.tree in
      let h = b.height in
      joint_three (ltb s.root (length ps)) (eqb (page ps s.root).level s.height) (leb 1 s.height)
      (lt-ltb s.root (length ps) b.tree.inside) (eq-eqb (page ps s.root).level s.height (omega arith)) (le-leb 1 s.height (omega arith))

  pub conditions : Conditions ps s
  unfolding counts_stand
  conditions =
      record {
        root = root_stands_lem;
        lower = below_so (children_lower ps) (length ps) children_lower_lem;
        reached = below_so (reached_once ps s) (length ps) once;
        stand = below_so (λ p. page_stands ps s p (page ps p)) (length ps) page_stands_lem;
        counts =
            let a = ap length book_held in
            let c = b.counts in
            joint (leb s.accepted most_accepted) (eqb (length (held_records ps s) + s.struck + s.covered) s.accepted)
            (le-leb s.accepted most_accepted b.few) (eq-eqb (length (held_records ps s) + s.struck + s.covered) s.accepted (omega arith));
        eight = book_eight;
      }
