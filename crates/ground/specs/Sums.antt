-- Sums over the first n numbers, and their laws. They speak of no box and no date, so every storey may cite them.
use Rattle.std.specs.Prelude.{Bool, true, false, cond, ◌≡◌, refl, ℕ, zero, suc, ◌+◌, ◌*◌, ◌≤◌, ◌<◌, eqb}
use Rattle.std.proofs.Common.{⊎_elim, sym, ap, ap₂, subst, ◌∙◌, mul_comm, zero-mul, one-mul, arith, eqb-true, eq-eqb, ne_eqb}
use Rattle.ground.specs.Tests.{below_or_not}

-- The sum of f over the first n numbers, 0 to n - 1.
unfoldable pub total : (ℕ → ℕ) → ℕ → ℕ
total f zero = 0
total f (suc n) = total f n + f n

-- a term lies below every later sum
pub total_step : (f : ℕ → ℕ) (i n : ℕ) → i < n → total f i + f i ≤ total f n
unfolding total
total_step f i zero p = omega arith
total_step f i (suc n) p =
    ⊎_elim
    (λ (h : i < n). let k = total_step f i n h in omega arith)
    (λ (h : n ≤ i). let e : i ≡ n = omega arith in rw e (omega arith))
    (below_or_not i n)

-- a number below a sum falls into one of its terms
pub record Within (f : ℕ → ℕ) (x n : ℕ) : Type 0 where
  pub term : ℕ
  pub inside : term < n
  pub start : total f term ≤ x
  pub end : x < total f term + f term

pub total_within : (f : ℕ → ℕ) (x n : ℕ) → x < total f n → Within f x n
unfolding total
total_within f x zero p = absurd (omega arith)
total_within f x (suc n) p =
    ⊎_elim
    (λ (h : x < total f n).
    let w = total_within f x n h in
    record { term = w.term; inside = omega (arith, w.inside); start = w.start; end = w.end })
    (λ (h : total f n ≤ x). record { term = n; inside = omega arith; start = h; end = p })
    (below_or_not x (total f n))

-- sums of equal terms are equal
pub total_same : (f g : ℕ → ℕ) (n : ℕ) → ((i : ℕ) → i < n → f i ≡ g i) → total f n ≡ total g n
unfolding total
total_same f g zero h = refl
total_same f g (suc n) h = ap₂ (λ a b. a + b) (total_same f g n (λ i p. h i (omega arith))) (h n (omega arith))

pub total_zero : (f : ℕ → ℕ) (n : ℕ) → ((i : ℕ) → i < n → f i ≡ 0) → total f n ≡ 0
unfolding total
total_zero f zero h = refl
total_zero f (suc n) h = let k = total_zero f n (λ i p. h i (omega arith)) in omega (arith, h n (omega arith))

-- a sum that is 0 has only terms that are 0
pub total_none : (f : ℕ → ℕ) (i n : ℕ) → i < n → total f n ≡ 0 → f i ≡ 0
total_none f i n p e = let h = total_step f i n p in omega arith

pub total_add : (f g : ℕ → ℕ) (n : ℕ) → total (λ i. f i + g i) n ≡ total f n + total g n
unfolding total
total_add f g zero = refl
total_add f g (suc n) = let h = total_add f g n in omega arith

-- the sum that picks one term out
pub total_pick : (f : ℕ → ℕ) (k n : ℕ) → k < n → total (λ i. cond (eqb i k) (f i) 0) n ≡ f k
unfolding total
total_pick f k zero p = omega arith
total_pick f k (suc n) p =
    ⊎_elim
    (λ (h : k < n). rw (ne_eqb n k (λ e. omega arith)) (omega (arith, total_pick f k n h)))
    (λ (h : n ≤ k).
    let e : n ≡ k = omega arith in
    let z = total_zero (λ i. cond (eqb i k) (f i) 0) n (λ i q. ap (λ t. cond t (f i) 0) (ne_eqb i k (λ d. omega arith))) in
    rw (eq-eqb n k e) (omega (arith, z, ap f e)))
    (below_or_not k n)
