-- Laws of partings: a strip is the parting of its meaning, and a parting is a strip that means it.
use Prim.Native.Nat.{ℕ, zero, suc, ◌+◌, ◌-◌, ◌≤◌, ◌<◌, max}
use Rattle.std.specs.Prelude.{Bool, not, ◌&&◌, ◌||◌, List, [], ◌∷◌, ◌⊎◌, ◌≡◌, leb, eqb}
use Rattle.std.proofs.Math.Bool.{true, false, false≢true}
use Rattle.std.proofs.Math.Logic.{◌⊎◌.inl, ◌⊎◌.inr}
use Rattle.std.proofs.Math.Path.{refl, sym, ap}
use Rattle.std.proofs.Common.{ap₂, ◌∙◌}
use native.Mathlib.Omega.{arith}
use borrow.Author.Tests.{leb-true, le-leb, lt-leb, eqb-true, eqb-false, eq-eqb, ne_eqb, not-true, not-false}
use Rattle.ground.specs.Tests.{both, joint, three, joint_three, second_of, below_or_not}
use Rattle.strip.specs.Strips.{all_days, greatest_value, half, segment, last_of, value_of, value_on, parts, ends_on, in_front, parting}

-- a segment's word holds its last day and its value
pub segment_last : (d x : ℕ) → x < half → last_of (segment d x) ≡ d
segment_last d x h = omega arith

pub segment_value : (d x : ℕ) → x < half → value_of (segment d x) ≡ x
segment_value d x h = omega arith

pub segment_word : (w : ℕ) → segment (last_of w) (value_of w) ≡ w
segment_word w = omega arith

-- where a segment ends
pub ends_unlike : (f : ℕ → ℕ) (d n : ℕ) → (f d ≡ f (suc d) → ⊥) → ends_on f d n ≡ true
unfolding ends_on
ends_unlike f d n h = rw (ne_eqb (f d) (f (suc d)) h) (second_of (eqb n 0) true refl)

pub ends_last : (f : ℕ → ℕ) (d : ℕ) → ends_on f d 0 ≡ true
unfolding ends_on
ends_last f d = refl

pub goes_on : (f : ℕ → ℕ) (d n : ℕ) → 0 < n → f d ≡ f (suc d) → ends_on f d n ≡ false
unfolding ends_on
goes_on f d n p e = rw (ne_eqb n 0 (λ z. omega arith), eq-eqb (f d) (f (suc d)) e) refl

-- partings of meanings that agree are equal
pub parting_same : (f g : ℕ → ℕ) (d n : ℕ) → ((e : ℕ) → d ≤ e → e < d + n → f e ≡ g e) → parting f d n ≡ parting g d n
unfolding parting ends_on
parting_same f g d zero h = refl
parting_same f g d (suc zero) h = ap (λ x. in_front true (segment d x) []) (h d (omega arith) (omega arith))
parting_same f g d (suc (suc n)) h =
    let tails = parting_same f g (suc d) (suc n) (λ e p q. h e (omega arith) (omega arith)) in
    ap₂ (λ x y. in_front (eqb (suc n) 0 || not (eqb x y)) (segment d x) (parting f (suc d) (suc n))) (h d (omega arith) (omega arith)) (h (suc d) (omega arith) (omega arith))
    ∙ ap (in_front (eqb (suc n) 0 || not (eqb (g d) (g (suc d)))) (segment d (g d))) tails

-- days of one value make one segment at most, which ends with them
pub parting_piece : (f : ℕ → ℕ) (x k d last n m : ℕ) → d + k ≡ last → m ≡ suc k + n → ((e : ℕ) → d ≤ e → e ≤ last → f e ≡ x)
    → parting f d m ≡ in_front (ends_on f last n) (segment last x) (parting f (suc last) n)
unfolding parting in_front
parting_piece f x zero d last n m p q h =
    let a : last ≡ d = omega arith in
    let b : m ≡ suc n = omega arith in
    rw (a, b) (ap (λ y. in_front (ends_on f d n) (segment d y) (parting f (suc d) n)) (h d (omega arith) (omega arith)))
parting_piece f x (suc k) d last n m p q h =
    let b : m ≡ suc (suc k + n) = omega arith in
    let on : ends_on f d (suc k + n) ≡ false = goes_on f d (suc k + n) (omega arith) (h d (omega arith) (omega arith) ∙ sym (h (suc d) (omega arith) (omega arith))) in
    ap (parting f d) b
    ∙ ap (λ t. in_front t (segment d (f d)) (parting f (suc d) (suc k + n))) on
    ∙ parting_piece f x k (suc d) last n (suc k + n) (omega arith) refl (λ e u v. h e (omega arith) (omega arith))

-- the first days' values
pub value_within : (w : ℕ) (s : List ℕ) (d : ℕ) → d ≤ last_of w → value_on (w ∷ s) d ≡ value_of w
unfolding value_on
value_within w s d h = rw (le-leb d (last_of w) h) refl

pub value_past : (w : ℕ) (s : List ℕ) (d : ℕ) → last_of w < d → value_on (w ∷ s) d ≡ value_on s d
unfolding value_on
value_past w s d h = rw (lt-leb d (last_of w) h) refl

-- what a parting's first segment is known by
pub record Begins (first before w : ℕ) (s : List ℕ) : Type 0 where
  pub from : first ≤ last_of w
  pub within : value_of w ≤ greatest_value
  pub unlike : value_of w ≡ before → ⊥
  pub rest : parts (suc (last_of w)) (value_of w) s ≡ true

pub begins : (first before w : ℕ) (s : List ℕ) → parts first before (w ∷ s) ≡ true → Begins first before w s
unfolding parts
begins first before w s e =
    let h = three (leb first (last_of w)) (leb (value_of w) greatest_value && not (eqb (value_of w) before)) (parts (suc (last_of w)) (value_of w) s) e in
    let k = both (leb (value_of w) greatest_value) (not (eqb (value_of w) before)) h.1 in
    record {
      from = leb-true first (last_of w) h.0;
      within = leb-true (value_of w) greatest_value k.0;
      unlike = eqb-false (value_of w) before (not-true (eqb (value_of w) before) k.1);
      rest = h.2;
    }

pub begun : (first before w : ℕ) (s : List ℕ) → Begins first before w s → parts first before (w ∷ s) ≡ true
unfolding parts
begun first before w s h =
    joint_three (leb first (last_of w)) (leb (value_of w) greatest_value && not (eqb (value_of w) before)) (parts (suc (last_of w)) (value_of w) s)
    (le-leb first (last_of w) h.from)
    (joint (leb (value_of w) greatest_value) (not (eqb (value_of w) before)) (le-leb (value_of w) greatest_value h.within) (rw (ne_eqb (value_of w) before h.unlike) refl))
    h.rest

pub none_left : (first before : ℕ) → parts first before [] ≡ true → first ≡ all_days
unfolding parts
none_left first before e = eqb-true first all_days e

pub parts_within : (first before : ℕ) (s : List ℕ) → parts first before s ≡ true → first ≤ all_days
parts_within first before [] e = let h = none_left first before e in omega arith
parts_within first before (w ∷ s) e =
    let h = begins first before w s e in
    let k = parts_within (suc (last_of w)) (value_of w) s h.rest in
    omega (arith, h.from)

-- the segment before ends where the next begins, since they are unlike
pub ends_before : (f : ℕ → ℕ) (last n : ℕ) (s : List ℕ) (x : ℕ) → parts (suc last) x s ≡ true → suc last + n ≡ all_days → f last ≡ x → f (suc last) ≡ value_on s (suc last) → ends_on f last n ≡ true
ends_before f last n [] x e p g h =
    let k = none_left (suc last) x e in
    let z : n ≡ 0 = omega arith in
    rw z (ends_last f last)
ends_before f last n (w ∷ s) x e p g h =
    let k = begins (suc last) x w s e in
    ends_unlike f last n (λ z. k.unlike (sym (value_within w s (suc last) k.from) ∙ sym h ∙ sym z ∙ g))

-- Segments that part the days are the parting of every meaning that agrees with theirs.
pub parted : (f : ℕ → ℕ) (first before n : ℕ) (s : List ℕ) → parts first before s ≡ true → first + n ≡ all_days → ((d : ℕ) → first ≤ d → f d ≡ value_on s d) → s ≡ parting f first n
unfolding parting in_front
parted f first before n [] e p h =
    let k = none_left first before e in
    let z : n ≡ 0 = omega arith in
    rw z refl
parted f first before n (w ∷ s) e p h =
    let k = begins first before w s e in
    let last = last_of w in
    let x = value_of w in
    let m = all_days - suc last in
    let most = parts_within (suc last) x s k.rest in
    let on : (d : ℕ) → first ≤ d → d ≤ last → f d ≡ x = λ d u v. h d u ∙ value_within w s d v in
    let past : (d : ℕ) → last < d → f d ≡ value_on s d = λ d u. h d (omega (arith, k.from)) ∙ value_past w s d u in
    let tail : s ≡ parting f (suc last) m = parted f (suc last) x m s k.rest (omega arith) past in
    let stop : ends_on f last m ≡ true = ends_before f last m s x k.rest (omega arith) (on last k.from (omega arith)) (past (suc last) (omega arith)) in
    sym
    (parting_piece f x (last - first) first last m n (omega (arith, k.from)) (omega (arith, k.from)) on
    ∙ ap₂ (λ t u. in_front t u (parting f (suc last) m)) stop (segment_word w)
    ∙ ap (λ r. w ∷ r) (sym tail))

-- where no segment ends, another day follows, and it is alike
pub no_end : (f : ℕ → ℕ) (d n : ℕ) → ends_on f d n ≡ false → (0 < n) × (f d ≡ f (suc d))
unfolding ends_on
no_end f d zero e = absurd (false≢true (sym e))
no_end f d (suc n) e = (omega arith, eqb-true (f d) (f (suc d)) (not-false (eqb (f d) (f (suc d))) (sym (rest (eqb (suc n) 0) (not (eqb (f d) (f (suc d)))) (ne_eqb (suc n) 0 (λ z. omega arith))) ∙ e)))
  where
    rest : (a b : Bool) → a ≡ false → a || b ≡ b
    rest true b h = absurd (false≢true (sym h))
    rest false b h = refl

-- Each value is a day's.
abbrev pub Values : (ℕ → ℕ) → Type 0
Values f = (d : ℕ) → f d ≤ greatest_value

module _ (f : ℕ → ℕ) (h : Values f) where
  last_so : (d : ℕ) → last_of (segment d (f d)) ≡ d
  last_so d = segment_last d (f d) (omega (arith, h d))

  value_so : (d : ℕ) → value_of (segment d (f d)) ≡ f d
  value_so d = segment_value d (f d) (omega (arith, h d))

  means_step : (d n e : ℕ) (t : Bool) → ends_on f d n ≡ t → (d < e) ⊎ (e ≤ d) → e < d + suc n → (0 < n → e < suc d + n → value_on (parting f (suc d) n) e ≡ f (max (suc d) e))
      → value_on (in_front t (segment d (f d)) (parting f (suc d) n)) e ≡ f (max d e)
  unfolding in_front
  means_step d n e true k (inl u) p i =
      value_past (segment d (f d)) (parting f (suc d) n) e (omega (arith, last_so d)) ∙ i (omega arith) (omega arith) ∙ ap f (omega arith)
  means_step d n e true k (inr u) p i =
      value_within (segment d (f d)) (parting f (suc d) n) e (omega (arith, last_so d)) ∙ value_so d ∙ ap f (omega arith)
  means_step d n e false k (inl u) p i = i (omega arith) (omega arith) ∙ ap f (omega arith)
  means_step d n e false k (inr u) p i =
      let g = no_end f d n k in
      let a : max (suc d) e ≡ suc d = omega arith in
      let b : d ≡ max d e = omega arith in
      i g.0 (omega arith) ∙ ap f a ∙ sym g.1 ∙ ap f b

  -- A parting means what it was made of. Days before its first one have that day's value.
  pub parting_means : (d n e : ℕ) → 0 < n → e < d + n → value_on (parting f d n) e ≡ f (max d e)
  unfolding parting
  parting_means d zero e z p = omega arith
  parting_means d (suc n) e z p = means_step d n e (ends_on f d n) refl (below_or_not d e) p (parting_means (suc d) n e)

  Unlike : ℕ → ℕ → ℕ → Type 0
  Unlike before d n = 0 < n → f d ≡ before → ⊥

  parts_step : (first before d n : ℕ) (t : Bool) → ends_on f d n ≡ t → first ≤ d → d + suc n ≡ all_days → (f d ≡ before → ⊥)
      → ((first before : ℕ) → first ≤ suc d → Unlike before (suc d) n → (n ≡ 0 → first ≡ all_days) → parts first before (parting f (suc d) n) ≡ true)
      → parts first before (in_front t (segment d (f d)) (parting f (suc d) n)) ≡ true
  unfolding in_front Unlike
  parts_step first before d n true k p q u i =
      let unlike : 0 < n → f (suc d) ≡ f d → ⊥ = λ m z. false≢true (sym (goes_on f d n m (sym z)) ∙ k) in
      begun first before (segment d (f d)) (parting f (suc d) n)
      (record {
        from = omega (arith, last_so d);
        within = omega (arith, value_so d, h d);
        unlike = λ z. u (sym (value_so d) ∙ z);
        rest = rw (last_so d, value_so d) (i (suc d) (f d) (omega arith) unlike (λ z. omega arith));
      })
  parts_step first before d n false k p q u i =
      let g = no_end f d n k in
      i first before (omega arith) (λ m z. u (g.1 ∙ z)) (λ z. absurd (not_none n z g.0))
    where
      not_none : (n : ℕ) → n ≡ 0 → 0 < n → ⊥
      not_none n z m = omega arith

  -- A parting parts the days.
  pub parting_parts : (first before d n : ℕ) → first ≤ d → d + n ≡ all_days → (0 < n → f d ≡ before → ⊥) → (n ≡ 0 → first ≡ all_days) → parts first before (parting f d n) ≡ true
  unfolding parting parts Unlike
  parting_parts first before d zero p q u v = eq-eqb first all_days (v refl)
  parting_parts first before d (suc n) p q u v =
      parts_step first before d n (ends_on f d n) refl p q (u (omega arith)) (λ a b r s t. parting_parts a b (suc d) n r (omega arith) s t)
