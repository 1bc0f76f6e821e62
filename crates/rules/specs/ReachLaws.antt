-- The walk of section 3 and the tree in the store: the pages reached and the records held are the tree's.
use Rattle.ground.specs.Tests.{below_or_not}
use Rattle.std.proofs.Math.Logic.{⊎_elim}
use Rattle.std.specs.Prelude.{Bool, ◌≡◌}
use Rattle.std.proofs.Math.Bool.{true, false}
use mathlib.Core.List.{List, [], ◌∷◌, ◌++◌, map, flat_map, append_assoc, append-nil}
use Rattle.std.proofs.Math.Path.{refl, sym, ap, ap₂, subst}
use Rattle.std.proofs.Common.{◌∙◌, ne_eqb, le-leb, eqb-true}
use Prim.Native.Nat.{ℕ, zero, suc, ◌+◌, ◌≤◌, ◌<◌}
use native.Mathlib.Omega.{arith}
use Rattle.std.proofs.Math.Dec.{eqb}
use Rattle.std.proofs.Math.ListN.{length}
use Rattle.pages.specs.Summary.{in_use}
use Rattle.pages.specs.declared.Entry.{Entry}
use Rattle.pages.specs.declared.Page.{Page}
use Rattle.split.specs.SplitLaws.{weigh, Each}
use Rattle.wellformed.specs.Counting.{sum_of, sum_flat, Each as EachPage}
use Rattle.wellformed.specs.Flat.{each_append}
use Rattle.wellformed.specs.WellFormed.{page, child_of, children, walk, leaf_entries}
use Rattle.rules.specs.CameLaws.{all_records}
use Rattle.rules.specs.Frame.{loads, root_load, root_records}
use Rattle.rules.specs.LeafLaws.{leaf_records, leaf_load}
use Rattle.rules.specs.Moves.{only}
use Rattle.rules.specs.Tree.{load, records, Stands, Sound, level_of}

-- a leaf has no children and holds its entries; an index page has its entries' children and holds none
module _ (ps : List Page) (p : ℕ) where
  pub leaf_children : (page ps p).level ≡ 1 → children (page ps p) ≡ []
  unfolding children
  leaf_children e = rw e

  pub leaf_holds : (page ps p).level ≡ 1 → leaf_entries (page ps p) ≡ in_use (page ps p)
  unfolding leaf_entries
  leaf_holds e = rw e

  pub index_children : (n : ℕ) → (page ps p).level ≡ suc (suc n) → children (page ps p) ≡ map child_of (in_use (page ps p))
  unfolding children
  index_children n e = rw (le-leb 2 (page ps p).level (omega arith))

  pub index_holds : (n : ℕ) → (page ps p).level ≡ suc (suc n) → leaf_entries (page ps p) ≡ []
  unfolding leaf_entries
  index_holds n e = rw (ne_eqb (page ps p).level 1 (λ d. omega arith))

flat_flat : (f : ℕ → List Entry) (g : ℕ → List ℕ) (xs : List ℕ) → flat_map f (flat_map g xs) ≡ flat_map (λ x. flat_map f (g x)) xs
unfolding flat_map
flat_flat f g [] = refl
flat_flat f g (x ∷ xs) = app (g x) (flat_map g xs) ∙ ap (λ (l : List Entry). flat_map f (g x) ++ l) (flat_flat f g xs)
  where
    app : (a b : List ℕ) → flat_map f (a ++ b) ≡ flat_map f a ++ flat_map f b
    app [] b = refl
    app (y ∷ a) b = ap (λ (l : List Entry). f y ++ l) (app a b) ∙ sym (append_assoc (f y) (flat_map f a) (flat_map f b))

-- the records held in the pages reached from page p
abbrev pub held_in : List Page → List ℕ → List Entry
held_in ps xs = flat_map (λ p. leaf_entries (page ps p)) xs

module _ (ps : List Page) where
  held_below : (n : ℕ) → ((p : ℕ) → Stands ps n p (Sound ps n) → held_in ps (walk ps (suc n) p) ≡ root_records ps n p)
      → (es : List Entry) → Each (Sound ps (suc n)) es → flat_map (λ c. held_in ps (walk ps (suc n) c)) (map child_of es) ≡ all_records ps (suc n) es
  unfolding flat_map records
  held_below n f [] p = refl
  held_below n f (e ∷ es) p = ap₂ (λ (a b : List Entry). a ++ b) (f e.child p.0.stands) (held_below n f es p.1)

  pub held_at : (n p : ℕ) → Stands ps n p (Sound ps n) → held_in ps (walk ps (suc n) p) ≡ root_records ps n p
  unfolding flat_map walk
  held_at zero p h =
      let l = level_of ps zero p (Sound ps zero) h in
      ap (λ (xs : List ℕ). leaf_entries (page ps p) ++ held_in ps (flat_map (walk ps zero) xs)) (leaf_children ps p l)
      ∙ append-nil (leaf_entries (page ps p))
      ∙ leaf_holds ps p l
      ∙ sym (leaf_records ps (in_use (page ps p)))
  held_at (suc n) p h =
      let l = level_of ps (suc n) p (Sound ps (suc n)) h in
      ap (λ (xs : List Entry). xs ++ held_in ps (flat_map (walk ps (suc n)) (children (page ps p)))) (index_holds ps p n l)
      ∙ ap (λ (xs : List ℕ). held_in ps (flat_map (walk ps (suc n)) xs)) (index_children ps p n l)
      ∙ flat_flat (λ p. leaf_entries (page ps p)) (walk ps (suc n)) (map child_of (in_use (page ps p)))
      ∙ held_below n (held_at n) (in_use (page ps p)) h.each

  -- sums over the pages reached
  sum_below : (n : ℕ) (g : ℕ → ℕ) → ((p : ℕ) → Stands ps n p (Sound ps n) → sum_of g (walk ps (suc n) p) ≡ root_load ps n p g)
      → (es : List Entry) → Each (Sound ps (suc n)) es → sum_of (λ c. sum_of g (walk ps (suc n) c)) (map child_of es) ≡ loads ps (suc n) es g
  unfolding sum_of weigh load
  sum_below n g f [] p = refl
  sum_below n g f (e ∷ es) p = let a = f e.child p.0.stands in let b = sum_below n g f es p.1 in omega arith

  pub sum_at : (n : ℕ) (g : ℕ → ℕ) (p : ℕ) → Stands ps n p (Sound ps n) → sum_of g (walk ps (suc n) p) ≡ root_load ps n p g
  unfolding sum_of walk flat_map
  sum_at zero g p h =
      let l = level_of ps zero p (Sound ps zero) h in
      let a = ap (λ (xs : List ℕ). g p + sum_of g (flat_map (walk ps zero) xs)) (leaf_children ps p l) in
      omega (arith, leaf_load ps (in_use (page ps p)) g)
  sum_at (suc n) g p h =
      let l = level_of ps (suc n) p (Sound ps (suc n)) h in
      let a = ap (λ (xs : List ℕ). g p + sum_of g (flat_map (walk ps (suc n)) xs)) (index_children ps p n l) in
      let b = sum_flat g (walk ps (suc n)) (map child_of (in_use (page ps p))) in
      let c = sum_below n g (sum_at n g) (in_use (page ps p)) h.each in
      omega arith

  -- all of them are pages of the table
  inside_below : (n : ℕ) → ((p : ℕ) → Stands ps n p (Sound ps n) → EachPage (λ q. q < length ps) (walk ps (suc n) p))
      → (es : List Entry) → Each (Sound ps (suc n)) es → EachPage (λ q. q < length ps) (flat_map (walk ps (suc n)) (map child_of es))
  unfolding flat_map
  inside_below n f [] p = tt
  inside_below n f (e ∷ es) p =
      each_append (λ q. q < length ps) (walk ps (suc n) e.child) (flat_map (walk ps (suc n)) (map child_of es)) (f e.child p.0.stands) (inside_below n f es p.1)

  pub inside_at : (n p : ℕ) → Stands ps n p (Sound ps n) → EachPage (λ q. q < length ps) (walk ps (suc n) p)
  unfolding walk flat_map
  inside_at zero p h =
      let l = level_of ps zero p (Sound ps zero) h in
      (h.inside, subst (λ (xs : List ℕ). EachPage (λ q. q < length ps) (flat_map (walk ps zero) xs)) (sym (leaf_children ps p l)) tt)
  inside_at (suc n) p h =
      let l = level_of ps (suc n) p (Sound ps (suc n)) h in
      (h.inside, subst (λ (xs : List ℕ). EachPage (λ q. q < length ps) (flat_map (walk ps (suc n)) xs)) (sym (index_children ps p n l)) (inside_below n (inside_at n) (in_use (page ps p)) h.each))

-- Each page that the tree counts stands in it.
pub record InTree (ps : List Page) (q : ℕ) : Type 0 where
  pub levels : ℕ
  pub stands : Stands ps levels q (Sound ps levels)
  pub some : 1 ≤ length (in_use (page ps q))

module _ (ps : List Page) (q : ℕ) where
  in_list : (n : ℕ) → ((e : Entry) → Sound ps n e → 0 < load ps (only q) n e → InTree ps q) → (es : List Entry) → Each (Sound ps n) es → 0 < loads ps n es (only q) → InTree ps q
  unfolding weigh
  in_list n f [] p k = absurd (omega arith)
  in_list n f (e ∷ es) p k =
      ⊎_elim (λ (a : 0 < load ps (only q) n e). f e p.0 a) (λ (a : load ps (only q) n e ≤ 0). in_list n f es p.1 (omega arith)) (below_or_not 0 (load ps (only q) n e))

  pub in_tree : (n : ℕ) (e : Entry) → Sound ps n e → 0 < load ps (only q) n e → InTree ps q
  unfolding load
  in_tree zero e h k = absurd (omega arith)
  in_tree (suc n) e h k = by_test (eqb q e.child) refl (in_list n (in_tree n) (in_use (page ps e.child)) h.stands.each)
    where
      by_test : (b : Bool) → eqb q e.child ≡ b → (0 < loads ps n (in_use (page ps e.child)) (only q) → InTree ps q) → InTree ps q
      by_test true d f =
          let x : e.child ≡ q = sym (eqb-true q e.child d) in
          record { levels = n; stands = subst (λ (c : ℕ). Stands ps n c (Sound ps n)) x h.stands; some = subst (λ (c : ℕ). 1 ≤ length (in_use (page ps c))) x h.some }
      by_test false d f = f (let z : only q e.child ≡ 0 = rw d in omega arith)

  pub in_entries : (n : ℕ) (es : List Entry) → Each (Sound ps n) es → 0 < loads ps n es (only q) → InTree ps q
  in_entries n es p k = in_list n (in_tree n) es p k
