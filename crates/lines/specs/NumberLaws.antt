-- Numbers printed and read: the digits that are printed are read back as the same number.
use Rattle.std.specs.Prelude.{true, List, [], ◌∷◌, ◌++◌, ◌≡◌, refl, ℕ, zero, suc, ◌+◌, ◌-◌, ◌*◌, ◌/◌, ◌%◌, ◌^◌, ◌≤◌, ◌<◌, max, leb, length}
use Rattle.std.proofs.Common.{⊎_elim, arith, lt-ltb, le-ltb, le-leb, length-append}
use Rattle.std.proofs.Math.Nat.{pow-succ'}
use Rattle.ground.specs.Tests.{both, joint_three, ordered, below_or_not}
use Rattle.lines.specs.Lines.{is_digit, are_digits, is_number, number, number_from}
use Rattle.lines.specs.Printing.{decimal_of, decimal}

-- the two ways through the definition
pub one_digit : (m n : ℕ) → n < 10 → decimal_of (suc m) n ≡ (48 + n) ∷ []
unfolding decimal_of
one_digit m n h = rw (lt-ltb n 10 h)

pub more_digits : (m n : ℕ) → 10 ≤ n → decimal_of (suc m) n ≡ decimal_of m (n / 10) ++ ((48 + n % 10) ∷ [])
unfolding decimal_of
more_digits m n h = rw (le-ltb n 10 h)

-- at most as many digits as are allowed, and as the number needs
pub decimal_most : (m n : ℕ) → length (decimal_of m n) ≤ m
unfolding decimal_of
decimal_most zero n = omega arith
decimal_most (suc m) n =
    ⊎_elim
    (λ (h : n < 10). rw (one_digit m n h) (omega arith))
    (λ (h : 10 ≤ n). rw (more_digits m n h) (omega (arith, length-append (decimal_of m (n / 10)) ((48 + n % 10) ∷ []), decimal_most m (n / 10))))
    (below_or_not n 10)

decimal_some : (m n : ℕ) → 1 ≤ length (decimal_of (suc m) n)
decimal_some m n =
    ⊎_elim
    (λ (h : n < 10). rw (one_digit m n h) (omega arith))
    (λ (h : 10 ≤ n). rw (more_digits m n h) (omega (arith, length-append (decimal_of m (n / 10)) ((48 + n % 10) ∷ []))))
    (below_or_not n 10)

pub tenth : (k n : ℕ) → n < 10 ^ suc k → n / 10 < 10 ^ k
tenth k n h = omega (arith, rw pow-succ' at h)

decimal_needs : (m k n : ℕ) → n < 10 ^ suc k → length (decimal_of m n) ≤ suc k
unfolding decimal_of
decimal_needs zero k n h = omega arith
decimal_needs (suc m) k n h =
    ⊎_elim
    (λ (l : n < 10). rw (one_digit m n l) (omega arith))
    (λ (l : 10 ≤ n). rw (more_digits m n l) (omega (arith, length-append (decimal_of m (n / 10)) ((48 + n % 10) ∷ []), below k l (tenth k n h) (λ j q. decimal_needs m j (n / 10) q))))
    (below_or_not n 10)
  where
    below : (j : ℕ) → 10 ≤ n → n / 10 < 10 ^ j → ((i : ℕ) → n / 10 < 10 ^ suc i → length (decimal_of m (n / 10)) ≤ suc i) → length (decimal_of m (n / 10)) ≤ j
    below zero l q more = absurd (omega arith)
    below (suc j) l q more = more j q

-- and no fewer
one_to_tens : (k : ℕ) → 1 ≤ 10 ^ k
one_to_tens zero = omega arith
one_to_tens (suc k) = rw pow-succ' (omega (arith, one_to_tens k))

decimal_long : (m k n : ℕ) → k < m → 10 ^ k ≤ n → suc k ≤ length (decimal_of m n)
decimal_long zero k n l h = absurd (omega arith)
decimal_long (suc m) zero n l h = decimal_some m n
decimal_long (suc m) (suc k) n l h =
    let tens : 10 * 10 ^ k ≤ n = rw pow-succ' at h in
    rw (more_digits m n (omega (arith, one_to_tens k))) (omega (arith, length-append (decimal_of m (n / 10)) ((48 + n % 10) ∷ []), decimal_long m k (n / 10) (omega arith) (omega arith)))

pub digits_by_log : (k n some : ℕ) → some ≡ max n 1 → k < 10 → 10 ^ k ≤ some → some < 10 * 10 ^ k → k + 1 ≡ length (decimal n)
digits_by_log zero n some e l h g = omega (arith, decimal_some 9 n, decimal_needs 10 0 n (omega arith))
digits_by_log (suc k) n some e l h g =
    let tens : 10 * 10 ^ k ≤ some = rw pow-succ' at h in
    let few : n < 10 ^ suc (suc k) = rw pow-succ' (omega arith) in
    omega (arith, decimal_long 10 (suc k) n l (omega (arith, one_to_tens k)), decimal_needs 10 (suc k) n few)

-- they are digits, and they are the number's
digits_last : (bs : List ℕ) (b : ℕ) → are_digits bs ≡ true → is_digit b ≡ true → are_digits (bs ++ (b ∷ [])) ≡ true
unfolding are_digits
digits_last [] b e f = rw f
digits_last (a ∷ bs) b e f =
    let h = both (is_digit a) (are_digits bs) e in
    rw (h.0, digits_last bs b h.1 f)

number_last : (v : ℕ) (bs : List ℕ) (b : ℕ) → number_from v (bs ++ (b ∷ [])) ≡ 10 * number_from v bs + (b - 48)
unfolding number_from
number_last v [] b = refl
number_last v (a ∷ bs) b = number_last (10 * v + (a - 48)) bs b

digits_printed : (m n : ℕ) → are_digits (decimal_of m n) ≡ true
unfolding decimal_of are_digits
digits_printed zero n = refl
digits_printed (suc m) n =
    ⊎_elim
    (λ (h : n < 10). rw (one_digit m n h, ordered 48 (48 + n) (48 + n) 57 (omega arith) (omega arith)))
    (λ (h : 10 ≤ n). rw (more_digits m n h) (digits_last (decimal_of m (n / 10)) (48 + n % 10) (digits_printed m (n / 10)) (ordered 48 (48 + n % 10) (48 + n % 10) 57 (omega arith) (omega arith))))
    (below_or_not n 10)

number_printed : (m n : ℕ) → n < 10 ^ m → number (decimal_of m n) ≡ n
unfolding decimal_of number_from
number_printed zero n h = omega arith
number_printed (suc m) n h =
    ⊎_elim
    (λ (l : n < 10). rw (one_digit m n l) (omega arith))
    (λ (l : 10 ≤ n). rw (more_digits m n l, number_last 0 (decimal_of m (n / 10)) (48 + n % 10), number_printed m (n / 10) (tenth m n h)) (omega arith))
    (below_or_not n 10)

-- every number that may be typed is read back from what is printed for it
pub number_read : (n : ℕ) → n ≤ 99_999 → (is_number (decimal n) ≡ true) × (number (decimal n) ≡ n)
number_read n h =
    let few = decimal_needs 10 4 n (omega arith) in
    let some = decimal_some 9 n in
    (joint_three (leb 1 (length (decimal n))) (leb (length (decimal n)) 5) (are_digits (decimal n)) (le-leb 1 (length (decimal n)) some) (le-leb (length (decimal n)) 5 few) (digits_printed 10 n), number_printed 10 n (omega arith))
