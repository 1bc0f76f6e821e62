-- Counting how often pages are reached and named. No page below the root is reached but through an entry that names it.
use Rattle.std.specs.Prelude.{ℕ, ◌+◌, ◌*◌, ◌<◌, Bool, true, false, cond, ◌≡◌, refl, eqb}
use mathlib.Core.List.{List, [], ◌∷◌, ◌++◌, flat_map}
use Rattle.std.proofs.Common.{sym, ap, arith, zero-mul}
use Rattle.ground.specs.Sums.{total, total_same, total_zero, total_add, total_pick}
use Rattle.wellformed.specs.WellFormed.{times}

-- the sum of f over a list of pages
unfoldable pub sum_of : (ℕ → ℕ) → List ℕ → ℕ
sum_of f [] = 0
sum_of f (q ∷ qs) = f q + sum_of f qs

pub sum_append : (f : ℕ → ℕ) (xs ys : List ℕ) → sum_of f (xs ++ ys) ≡ sum_of f xs + sum_of f ys
unfolding sum_of
sum_append f [] ys = omega arith
sum_append f (x ∷ xs) ys = let h = sum_append f xs ys in omega arith

pub sum_flat : (f : ℕ → ℕ) (g : ℕ → List ℕ) (xs : List ℕ) → sum_of f (flat_map g xs) ≡ sum_of (λ x. sum_of f (g x)) xs
unfolding sum_of flat_map
sum_flat f g [] = refl
sum_flat f g (x ∷ xs) = let h = sum_flat f g xs in omega (arith, sum_append f (g x) (flat_map g xs))

-- how often a page stands in a list is a sum too
pub times_sum : (p : ℕ) (xs : List ℕ) → times p xs ≡ sum_of (λ q. cond (eqb p q) 1 0) xs
unfolding times sum_of
times_sum p [] = refl
times_sum p (q ∷ qs) = ap (λ n. cond (eqb p q) 1 0 + n) (times_sum p qs)

-- what holds of every page of a list
abbrev pub Each : (ℕ → Type 0) → List ℕ → Type 0
Each P [] = Unit {0}
Each P (q ∷ qs) = P q × Each P qs

-- a sum over a list goes over all pages, each as often as it stands there
pub sum_by_page : (f : ℕ → ℕ) (n : ℕ) (xs : List ℕ) → Each (λ q. q < n) xs → sum_of f xs ≡ total (λ q. times q xs * f q) n
unfolding sum_of times
sum_by_page f n [] h = sym (total_zero (λ q. 0 * f q) n (λ q p. zero-mul (f q)))
sum_by_page f n (x ∷ xs) h =
    let k = sum_by_page f n xs h.1 in
    let e = total_same (λ q. (cond (eqb q x) 1 0 + times q xs) * f q) (λ q. cond (eqb q x) (f q) 0 + times q xs * f q) n (λ q p. one_more (eqb q x) (times q xs) (f q)) in
    let a = total_add (λ q. cond (eqb q x) (f q) 0) (λ q. times q xs * f q) n in
    omega (arith, e, a, k, total_pick f x n h.0)
  where
    one_more : (b : Bool) (m v : ℕ) → (cond b 1 0 + m) * v ≡ cond b v 0 + m * v
    one_more true m v = omega arith
    one_more false m v = omega arith
