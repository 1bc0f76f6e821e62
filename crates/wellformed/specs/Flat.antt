-- Why a flat pass decides "reached from the root exactly once": in a graded table a page that is not free is reached once exactly if it is the root, and nobody names it, or one entry of all pages names it.
use Prim.Native.Nat.{ℕ, zero, suc, ◌+◌, ◌*◌, ◌≤◌, ◌<◌, max}
use Rattle.std.specs.Prelude.{Bool, ◌||◌, ◌≡◌, leb, ltb}
use Rattle.std.proofs.Math.Bool.{true, false, cond}
use mathlib.Core.List.{List, [], ◌∷◌, ◌++◌, map, flat_map}
use Rattle.std.proofs.Math.Logic.{⊎_elim}
use Rattle.std.proofs.Math.Path.{refl, ap}
use Rattle.std.proofs.Common.{sym, subst, ◌∙◌, mul-zero, length-append}
use Rattle.std.proofs.Math.Nat.{one-mul}
use native.Mathlib.Omega.{arith}
use borrow.Author.Tests.{leb-true, ltb-true, eqb-true, eq-eqb, ne_eqb}
use Rattle.std.proofs.Math.Dec.{eqb}
use Rattle.std.proofs.Math.ListN.{length}
use Rattle.ground.specs.Sums.{total, total_same, total_zero}
use Rattle.ground.specs.Tests.{both, joint, below_or_not, same_test}
use Rattle.pages.specs.Free.{is_free}
use Rattle.pages.specs.Summary.{in_use}
use Rattle.pages.specs.Words.{every}
use Rattle.pages.specs.declared.Entry.{Entry}
use Rattle.pages.specs.declared.Page.{Page}
use Rattle.pages.specs.declared.Small.{Small}
use Rattle.wellformed.specs.Counting.{sum_of, sum_flat, times_sum, Each, sum_by_page}
use Rattle.wellformed.specs.WellFormed.{every_below, times, page, child_of, children, walk, reached, leaf_entries, held_records, is_lower, children_lower, reached_once}

-- tests of all, as facts on each and back
pub each : (f : ℕ → Bool) (xs : List ℕ) → every f xs ≡ true → Each (λ x. f x ≡ true) xs
unfolding every
each f [] e = tt
each f (x ∷ xs) e = let h = both (f x) (every f xs) e in (h.0, each f xs h.1)

pub each_map : (P Q : ℕ → Type 0) (xs : List ℕ) → ((x : ℕ) → P x → Q x) → Each P xs → Each Q xs
each_map P Q [] f h = tt
each_map P Q (x ∷ xs) f h = (f x h.0, each_map P Q xs f h.1)

pub each_append : (P : ℕ → Type 0) (xs ys : List ℕ) → Each P xs → Each P ys → Each P (xs ++ ys)
each_append P [] ys h k = k
each_append P (x ∷ xs) ys h k = (h.0, each_append P xs ys h.1 k)

pub each_flat : (P : ℕ → Type 0) (g : ℕ → List ℕ) (xs : List ℕ) → Each (λ x. Each P (g x)) xs → Each P (flat_map g xs)
unfolding flat_map
each_flat P g [] h = tt
each_flat P g (x ∷ xs) h = each_append P (g x) (flat_map g xs) h.0 (each_flat P g xs h.1)

pub below : (f : ℕ → Bool) (i n : ℕ) → every_below f n ≡ true → i < n → f i ≡ true
unfolding every_below
below f i zero e p = absurd (omega arith)
below f i (suc n) e p =
    let h = both (every_below f n) (f n) e in
    ⊎_elim (λ (q : i < n). below f i n h.0 q) (λ (q : n ≤ i). let d : n ≡ i = omega arith in subst (λ k. f k ≡ true) d h.1) (below_or_not i n)

pub below_so : (f : ℕ → Bool) (n : ℕ) → ((i : ℕ) → i < n → f i ≡ true) → every_below f n ≡ true
unfolding every_below
below_so f zero h = refl
below_so f (suc n) h = joint (every_below f n) (f n) (below_so f n (λ i p. h i (omega arith))) (h n (omega arith))

-- what stands in a list often enough to be counted has what each of the list has; else it is not counted
found : (P : ℕ → Type 0) (x : ℕ) (cs : List ℕ) → Each P cs → 0 < times x cs → P x
unfolding times
found P x [] h p = absurd (omega arith)
found P x (c ∷ cs) h p = by_test (eqb x c) refl (found P x cs h.1)
  where
    by_test : (b : Bool) → eqb x c ≡ b → (0 < times x cs → P x) → P x
    by_test true e later = subst P (sym (eqb-true x c e)) h.0
    by_test false e later = later (let q = subst (λ b. 0 < cond b 1 0 + times x cs) e p in omega arith)

sum_each : (f d g : ℕ → ℕ) (cs : List ℕ) → Each (λ c. f c ≡ d c + g c) cs → sum_of f cs ≡ sum_of d cs + sum_of g cs
unfolding sum_of
sum_each f d g [] h = refl
sum_each f d g (c ∷ cs) h = let k = sum_each f d g cs h.1 in omega (arith, h.0)

-- a child of page p: in the table, one level lower, and p is an index page
pub record Lower (ps : List Page) (level c : ℕ) : Type 0 where
  pub inside : c < length ps
  pub lower : (page ps c).level + 1 ≡ level
  pub above : 2 ≤ level

abbrev pub Graded : List Page → Type 0
Graded ps = (p : ℕ) → p < length ps → Each (Lower ps (page ps p).level) (children (page ps p))

pub graded : (ps : List Page) → every_below (children_lower ps) (length ps) ≡ true → Graded ps
unfolding children_lower is_lower children
graded ps e p q =
    index_page (leb 2 (page ps p).level) refl (each (is_lower ps (page ps p).level) (children (page ps p)) (below (children_lower ps) p (length ps) e q))
  where
    index_page : (b : Bool) → leb 2 (page ps p).level ≡ b → Each (λ c. is_lower ps (page ps p).level c ≡ true) (cond b (map child_of (in_use (page ps p))) []) → Each (Lower ps (page ps p).level) (cond b (map child_of (in_use (page ps p))) [])
    index_page false f h = tt
    index_page true f h =
        each_map (λ c. is_lower ps (page ps p).level c ≡ true) (Lower ps (page ps p).level) (map child_of (in_use (page ps p)))
        (λ c k. let l = both (ltb c (length ps)) (eqb ((page ps c).level + 1) (page ps p).level) k in
        record { inside = ltb-true c (length ps) l.0; lower = eqb-true ((page ps c).level + 1) (page ps p).level l.1; above = leb-true 2 (page ps p).level f }) h

-- how often page q names page x
unfoldable pub names : List Page → ℕ → ℕ → ℕ
names ps q x = times x (children (page ps q))

module _ (ps : List Page) (g : Graded ps) where
  -- a walk from a page of the level that it has to go stays in the table
  walk_inside : (n p : ℕ) → p < length ps → (page ps p).level ≡ n → Each (λ q. q < length ps) (walk ps n p)
  unfolding walk
  walk_inside zero p h e = tt
  walk_inside (suc n) p h e = (
    h,
    each_flat (λ q. q < length ps) (walk ps n) (children (page ps p))
        (each_map (Lower ps (page ps p).level) (λ c. Each (λ q. q < length ps) (walk ps n c)) (children (page ps p))
        (λ c k. walk_inside n c k.inside (omega (arith, k.lower))) (g p h)),
  )

  -- each page of it but the first is reached through an entry that names it
  walk_counts : (x n p : ℕ) → p < length ps → (page ps p).level ≡ n → 1 ≤ n → sum_of (λ q. cond (eqb x q) 1 0) (walk ps n p) ≡ cond (eqb x p) 1 0 + sum_of (λ q. names ps q x) (walk ps n p)
  unfolding walk sum_of names
  walk_counts x zero p h e o = absurd (omega arith)
  walk_counts x (suc n) p h e o =
      let k =
      sum_each (λ c. sum_of (λ q. cond (eqb x q) 1 0) (walk ps n c)) (λ q. cond (eqb x q) 1 0) (λ c. sum_of (λ q. names ps q x) (walk ps n c)) (children (page ps p))
      (each_map (Lower ps (page ps p).level) (λ c. sum_of (λ q. cond (eqb x q) 1 0) (walk ps n c) ≡ cond (eqb x c) 1 0 + sum_of (λ q. names ps q x) (walk ps n c)) (children (page ps p))
      (λ c l. walk_counts x n c l.inside (omega (arith, l.lower)) (omega (arith, l.above))) (g p h)) in
      omega (
        arith,
        k,
        sum_flat (λ q. cond (eqb x q) 1 0) (walk ps n) (children (page ps p)),
        sum_flat (λ q. names ps q x) (walk ps n) (children (page ps p)),
        times_sum x (children (page ps p)),
      )

-- how often all pages together name page x
unfoldable pub named : List Page → ℕ → ℕ
named ps x = total (λ q. names ps q x) (length ps)

-- what a flat pass finds of a page: the root and a free page are not named, every other page is named once
abbrev pub named_once : List Page → Small → ℕ → Bool
named_once ps s x = eqb (named ps x) (cond (is_free (page ps x) || eqb x s.root) 0 1)

-- a free page has no children, and nobody's child is free
free_names : (ps : List Page) (q x : ℕ) → is_free (page ps q) ≡ true → names ps q x ≡ 0
unfolding names children times
free_names ps q x e = let z : (page ps q).level ≡ 0 = eqb-true (page ps q).level 0 e in rw z

free_holds : (x : Page) → is_free x ≡ true → length (leaf_entries x) ≡ 0
unfolding leaf_entries
free_holds x e = let z : x.level ≡ 0 = eqb-true x.level 0 e in rw z

length_flat : (f : ℕ → List Entry) (xs : List ℕ) → length (flat_map f xs) ≡ sum_of (λ x. length (f x)) xs
unfolding flat_map sum_of
length_flat f [] = refl
length_flat f (x ∷ xs) = length-append (f x) (flat_map f xs) ∙ ap (λ n. length (f x) + n) (length_flat f xs)

-- no level is above the highest
unfoldable top : List Page → ℕ
top [] = 0
top (x ∷ xs) = max x.level (top xs)

below_top : (ps : List Page) (p : ℕ) → (page ps p).level ≤ top ps
unfolding top
below_top [] p = omega arith
below_top (x ∷ xs) zero = omega arith
below_top (x ∷ xs) (suc p) = omega (arith, below_top xs p)

module _ (ps : List Page) (s : Small) (g : Graded ps) (inside : s.root < length ps) (level : (page ps s.root).level ≡ s.height) (high : 1 ≤ s.height) where
  occurs : ℕ → ℕ
  occurs x = times x (reached ps s)

  by_names : (x : ℕ) → occurs x ≡ cond (eqb x s.root) 1 0 + total (λ q. occurs q * names ps q x) (length ps)
  unfolding occurs
  by_names x =
      times_sum x (reached ps s)
      ∙ walk_counts ps g x s.height s.root inside level high
      ∙ ap (λ n. cond (eqb x s.root) 1 0 + n) (sum_by_page (λ q. names ps q x) (length ps) (reached ps s) (walk_inside ps g s.height s.root inside level))

  -- where every page that names x is reached once, x is reached as often as it is named, and once more if it is the root
  by_named : (x : ℕ) → ((q : ℕ) → q < length ps → 0 < names ps q x → occurs q ≡ 1) → occurs x ≡ cond (eqb x s.root) 1 0 + named ps x
  unfolding named
  by_named x h = by_names x ∙ ap (λ n. cond (eqb x s.root) 1 0 + n) (total_same (λ q. occurs q * names ps q x) (λ q. names ps q x) (length ps) (λ q p. once q p))
    where
      once : (q : ℕ) → q < length ps → occurs q * names ps q x ≡ names ps q x
      once q p =
          ⊎_elim (λ (k : 0 < names ps q x). ap (λ n. n * names ps q x) (h q p k) ∙ one-mul (names ps q x))
          (λ (k : names ps q x ≤ 0). let z : names ps q x ≡ 0 = omega arith in rw z (mul-zero (occurs q)))
          (below_or_not 0 (names ps q x))

  named_lower : (q x : ℕ) → q < length ps → 0 < names ps q x → Lower ps (page ps q).level x
  unfolding names
  named_lower q x p k = found (Lower ps (page ps q).level) x (children (page ps q)) (g q p) k

  not_free : (q : ℕ) → 1 ≤ (page ps q).level → is_free (page ps q) ≡ false
  not_free q p = ne_eqb (page ps q).level 0 (λ e. omega arith)

  free_unnamed : (x : ℕ) → is_free (page ps x) ≡ true → named ps x ≡ 0
  unfolding named
  free_unnamed x e =
      total_zero (λ q. names ps q x) (length ps) (λ q p.
      ⊎_elim (λ (k : 0 < names ps q x). let l = named_lower q x p k in let z = eqb-true (page ps x).level 0 e in absurd (omega arith)) (λ (k : names ps q x ≤ 0). omega arith) (below_or_not 0 (names ps q x)))

  -- reached once, so named once
  once_named : ((q : ℕ) → q < length ps → is_free (page ps q) ≡ false → occurs q ≡ 1) → (x : ℕ) → x < length ps → named_once ps s x ≡ true
  once_named h x p = by_free (is_free (page ps x)) refl
    where
      names_once : (q : ℕ) → q < length ps → 0 < names ps q x → occurs q ≡ 1
      names_once q r k = h q r (not_free q (omega (arith, named_lower q x r k)))

      by_free : (b : Bool) → is_free (page ps x) ≡ b → named_once ps s x ≡ true
      by_free true e = rw e (eq-eqb (named ps x) 0 (free_unnamed x e))
      by_free false e = rw e (by_root (eqb x s.root) refl)
        where
          by_root : (r : Bool) → eqb x s.root ≡ r → eqb (named ps x) (cond (eqb x s.root) 0 1) ≡ true
          by_root true f = rw f (eq-eqb (named ps x) 0 (let k = by_named x names_once in let o = h x p e in let c = ap (λ b. cond b 1 0 + named ps x) f in omega arith))
          by_root false f = rw f (eq-eqb (named ps x) 1 (let k = by_named x names_once in let o = h x p e in let c = ap (λ b. cond b 1 0 + named ps x) f in omega arith))

  -- a page that is not free and is named once is reached once, if all that name it are
  reached_by_named : (x : ℕ) → named_once ps s x ≡ true → is_free (page ps x) ≡ false → ((q : ℕ) → q < length ps → 0 < names ps q x → occurs q ≡ 1) → occurs x ≡ 1
  reached_by_named x h e above =
      by_root (eqb x s.root) (by_named x above)
      (eqb-true (named ps x) (cond (eqb x s.root) 0 1) (subst (λ b. eqb (named ps x) (cond (b || eqb x s.root) 0 1) ≡ true) e h))
    where
      by_root : (r : Bool) → occurs x ≡ cond r 1 0 + named ps x → named ps x ≡ cond r 0 1 → occurs x ≡ 1
      by_root true a b = omega arith
      by_root false a b = omega arith

  -- named once, so reached once: from the highest level down
  once_reached : ((x : ℕ) → x < length ps → named_once ps s x ≡ true) → (k x : ℕ) → x < length ps → is_free (page ps x) ≡ false → top ps < (page ps x).level + k → occurs x ≡ 1
  once_reached h zero x p e t = absurd (omega (arith, below_top ps x))
  once_reached h (suc k) x p e t =
      reached_by_named x (h x p) e (λ q r n. let l = named_lower q x r n in once_reached h k q r (not_free q (omega arith)) (omega arith))

  once : (x : ℕ) → reached_once ps s x ≡ true → is_free (page ps x) ≡ false → occurs x ≡ 1
  unfolding reached_once occurs
  once x h e = eqb-true (times x (reached ps s)) 1 (subst (λ b. b || eqb (times x (reached ps s)) 1 ≡ true) e h)

  -- the flat pass decides the walk
  pub flat_decides : every_below (reached_once ps s) (length ps) ≡ every_below (named_once ps s) (length ps)
  unfolding reached_once occurs
  flat_decides =
      same_test (every_below (reached_once ps s) (length ps)) (every_below (named_once ps s) (length ps))
      (λ h. below_so (named_once ps s) (length ps) (λ x p. once_named (λ q r e. once q (below (reached_once ps s) q (length ps) h r) e) x p))
      (λ h. below_so (reached_once ps s) (length ps) (λ x p. by_free x (is_free (page ps x)) refl (once_reached (λ y r. below (named_once ps s) y (length ps) h r) (suc (top ps)) x p)))
    where
      by_free : (x : ℕ) (b : Bool) → is_free (page ps x) ≡ b → (is_free (page ps x) ≡ false → top ps < (page ps x).level + suc (top ps) → times x (reached ps s) ≡ 1) → reached_once ps s x ≡ true
      by_free x true e h = rw e
      by_free x false e h = rw e (eq-eqb (times x (reached ps s)) 1 (h e (omega arith)))

  -- the held records are those of all leaves
  pub held_flat : every_below (reached_once ps s) (length ps) ≡ true → length (held_records ps s) ≡ total (λ q. length (leaf_entries (page ps q))) (length ps)
  unfolding held_records occurs
  held_flat h =
      length_flat (λ p. leaf_entries (page ps p)) (reached ps s)
      ∙ sum_by_page (λ q. length (leaf_entries (page ps q))) (length ps) (reached ps s) (walk_inside ps g s.height s.root inside level)
      ∙ total_same (λ q. times q (reached ps s) * length (leaf_entries (page ps q))) (λ q. length (leaf_entries (page ps q))) (length ps) (λ q p. by_free q (is_free (page ps q)) refl (once q (below (reached_once ps s) q (length ps) h p)))
    where
      by_free : (q : ℕ) (b : Bool) → is_free (page ps q) ≡ b → (is_free (page ps q) ≡ false → times q (reached ps s) ≡ 1) → times q (reached ps s) * length (leaf_entries (page ps q)) ≡ length (leaf_entries (page ps q))
      by_free q true e k = rw (free_holds (page ps q) e) (mul-zero (times q (reached ps s)))
      by_free q false e k = rw (k e) (one-mul (length (leaf_entries (page ps q))))
