-- What lies below a page: the best of its records and the pages that touch, level by level.
use Rattle.std.specs.Prelude.{ℕ, suc, ◌+◌, max, ◌≤◌, ◌≡◌, drop}
use mathlib.Core.List.{List, [], ◌∷◌, ◌++◌, map, flat_map}
use Rattle.std.proofs.Math.Path.{refl}
use Rattle.std.proofs.Common.{ap, ◌∙◌, arith, le-leb, ne_eqb}
use Rattle.pages.specs.Summary.{in_use}
use Rattle.pages.specs.declared.Entry.{Entry}
use Rattle.pages.specs.declared.Page.{Page}
use Rattle.wellformed.specs.Counting.{sum_of, sum_flat}
use Rattle.wellformed.specs.WellFormed.{page, child_of, children, walk, leaf_entries}
use Rattle.asking.specs.BoxMax.{greatest}
use Rattle.asking.specs.ExactEntries.{greatest_append}

-- the records below page p of level n, found by walking the leaves in order
unfoldable pub records_below : List Page → ℕ → ℕ → List Entry
records_below ps n p = flat_map (λ c. leaf_entries (page ps c)) (walk ps n p)

-- the sum of f over entries
unfoldable pub sum_over : (Entry → ℕ) → List Entry → ℕ
sum_over f [] = 0
sum_over f (e ∷ es) = f e + sum_over f es

sum_children : (f : ℕ → ℕ) (es : List Entry) → sum_of f (map child_of es) ≡ sum_over (λ e. f e.child) es
unfolding sum_of sum_over
sum_children f [] = refl
sum_children f (e ∷ es) = ap (λ n. f e.child + n) (sum_children f es)

pub sum_none : (es : List Entry) → sum_over (λ e. 0) es ≡ 0
unfolding sum_over
sum_none [] = refl
sum_none (e ∷ es) = let h = sum_none es in omega arith

flat_append : (f : ℕ → List Entry) (g : Entry → ℕ) (xs ys : List ℕ) → greatest g (flat_map f (xs ++ ys)) ≡ max (greatest g (flat_map f xs)) (greatest g (flat_map f ys))
unfolding flat_map greatest
flat_append f g [] ys = omega arith
flat_append f g (x ∷ xs) ys =
    let h = flat_append f g xs ys in
    omega (arith, greatest_append g (f x) (flat_map f (xs ++ ys)), greatest_append g (f x) (flat_map f xs))

children_best : (f : ℕ → List Entry) (w : ℕ → List ℕ) (g : Entry → ℕ) (es : List Entry) → greatest g (flat_map f (flat_map w (map child_of es))) ≡ greatest (λ e. greatest g (flat_map f (w e.child))) es
unfolding flat_map greatest
children_best f w g [] = refl
children_best f w g (e ∷ es) =
    let h = children_best f w g es in
    omega (arith, flat_append f g (w e.child) (flat_map w (map child_of es)))

module _ (ps : List Page) (p : ℕ) where
  abbrev entries : List Entry
  entries = in_use (page ps p)

  -- a leaf: its own entries, and no other page
  leaf_children : (page ps p).level ≡ 1 → children (page ps p) ≡ []
  unfolding children
  leaf_children e = rw e

  leaf_own : (page ps p).level ≡ 1 → leaf_entries (page ps p) ≡ in_use (page ps p)
  unfolding leaf_entries
  leaf_own e = rw e

  pub leaf_below : (g : Entry → ℕ) → (page ps p).level ≡ 1 → greatest g (records_below ps 1 p) ≡ greatest g (in_use (page ps p))
  unfolding records_below walk flat_map greatest
  leaf_below g e =
      rw (leaf_children e, leaf_own e)
      (greatest_append g (in_use (page ps p)) [] ∙ omega arith)

  pub leaf_others : (f : ℕ → ℕ) → (page ps p).level ≡ 1 → sum_of f (drop 1 (walk ps 1 p)) ≡ 0
  unfolding walk flat_map sum_of
  leaf_others f e = rw (leaf_children e)

  -- an index page: what its children have
  index_children : 2 ≤ (page ps p).level → children (page ps p) ≡ map child_of (in_use (page ps p))
  unfolding children
  index_children n = rw (le-leb 2 (page ps p).level n)

  index_own : 2 ≤ (page ps p).level → leaf_entries (page ps p) ≡ []
  unfolding leaf_entries
  index_own n = rw (ne_eqb (page ps p).level 1 (λ e. omega arith))

  pub index_below : (g : Entry → ℕ) (n : ℕ) → 2 ≤ (page ps p).level → greatest g (records_below ps (suc n) p) ≡ greatest (λ e. greatest g (records_below ps n e.child)) (in_use (page ps p))
  unfolding records_below walk flat_map
  index_below g n l = rw (index_children l, index_own l) (children_best (λ c. leaf_entries (page ps c)) (walk ps n) g (in_use (page ps p)))

  pub index_others : (f : ℕ → ℕ) (n : ℕ) → 2 ≤ (page ps p).level → sum_of f (drop 1 (walk ps (suc n) p)) ≡ sum_over (λ e. sum_of f (walk ps n e.child)) (in_use (page ps p))
  unfolding walk
  index_others f n l = rw (index_children l) (sum_flat f (walk ps n) (map child_of (in_use (page ps p))) ∙ sum_children (λ c. sum_of f (walk ps n c)) (in_use (page ps p)))

  -- a page that is reached, and the others
  pub walk_others : (f : ℕ → ℕ) (n : ℕ) → sum_of f (walk ps (suc n) p) ≡ f p + sum_of f (drop 1 (walk ps (suc n) p))
  unfolding walk sum_of
  walk_others f n = refl
