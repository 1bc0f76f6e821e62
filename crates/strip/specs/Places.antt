-- A place in a list of segments that part the days: the first day of the segment there, and what holds before and after it.
use Prim.Native.Nat.{ℕ, zero, suc, ◌+◌, ◌-◌, ◌≤◌, ◌<◌}
use Rattle.std.specs.Prelude.{true, List, [], ◌∷◌, ◌++◌, ◌≡◌, refl, length, take, drop, get_or}
use Rattle.std.proofs.Common.{sym, ap, ap₂, ◌∙◌, not-suc-le-zero, drop-cons}
use native.Mathlib.Omega.{arith}
use Rattle.std.proofs.Math.Seq.{drop-length}
use Rattle.strip.specs.Strips.{all_days, last_of, value_of, value_on, parts, ends_on, in_front, parting}
use Rattle.strip.specs.PartingLaws.{segment_word, parting_piece, value_within, value_past, begins, none_left, parts_within, ends_before}

-- A segment's first day follows the last day of the one before it, and so its value before.
unfoldable pub first_from : ℕ → List ℕ → ℕ → ℕ
first_from first s zero = first
first_from first s (suc i) = suc (last_of (get_or s i 0))

unfoldable pub value_before : ℕ → List ℕ → ℕ → ℕ
value_before before s zero = before
value_before before s (suc i) = value_of (get_or s i 0)

-- the first day of the segment at a place
abbrev pub first_day : List ℕ → ℕ → ℕ
first_day words i = first_from 0 words i

-- the place of the segment that has a day
pub record Found (words : List ℕ) (day i : ℕ) : Type 0 where
  pub inside : i < length words
  pub from : first_day words i ≤ day
  pub to : day ≤ last_of (get_or words i 0)

first_next : (first w : ℕ) (s : List ℕ) (i : ℕ) → first_from first (w ∷ s) (suc i) ≡ first_from (suc (last_of w)) s i
unfolding first_from
first_next first w s zero = refl
first_next first w s (suc i) = refl

before_next : (before w : ℕ) (s : List ℕ) (i : ℕ) → value_before before (w ∷ s) (suc i) ≡ value_before (value_of w) s i
unfolding value_before
before_next before w s zero = refl
before_next before w s (suc i) = refl

-- the segments from a place on part the days from there on
pub place_parts : (first before : ℕ) (s : List ℕ) (i : ℕ) → parts first before s ≡ true → i ≤ length s → parts (first_from first s i) (value_before before s i) (drop i s) ≡ true
unfolding first_from value_before
place_parts first before s zero e h = e
place_parts first before [] (suc i) e h = absurd (not-suc-le-zero h)
place_parts first before (w ∷ s) (suc i) e h =
    rw (first_next first w s i, before_next before w s i) (place_parts (suc (last_of w)) (value_of w) s i (begins first before w s e).rest (omega arith))

-- each begins where it does, and ends no earlier
module _ (first before : ℕ) (s : List ℕ) (e : parts first before s ≡ true) where
  pub place_step : (i : ℕ) → i < length s → first_from first s i ≤ last_of (get_or s i 0)
  place_step i h =
      let k = rw (drop-cons s i 0 h) at (place_parts first before s i e (omega arith)) in
      (begins (first_from first s i) (value_before before s i) (get_or s i 0) (drop (suc i) s) k).from

  pub place_later : (i k : ℕ) → i + k ≤ length s → first_from first s i + k ≤ first_from first s (i + k)
  unfolding first_from
  place_later i zero h = let z : i + 0 ≡ i = omega arith in rw z (omega arith)
  place_later i (suc k) h =
      let z : i + suc k ≡ suc (i + k) = omega arith in
      let a = place_later i k (omega arith) in
      let b = place_step (i + k) (omega arith) in
      rw z (next (i + k) a b)
    where
      next : (j : ℕ) → first_from first s i + k ≤ first_from first s j → first_from first s j ≤ last_of (get_or s j 0) → first_from first s i + suc k ≤ first_from first s (suc j)
      next j a b = omega arith

  pub place_end : first_from first s (length s) ≡ all_days
  place_end = none_left (first_from first s (length s)) (value_before before s (length s)) (rw (drop-length s) at (place_parts first before s (length s) e (omega arith)))

  pub place_within : (i : ℕ) → i ≤ length s → first + i ≤ first_from first s i
  unfolding first_from
  place_within i h = rw (sum) at (place_later 0 i (omega arith))
    where
      sum : 0 + i ≡ i
      sum = omega arith

  pub place_most : (i : ℕ) → i ≤ length s → first_from first s i ≤ all_days
  place_most i h = parts_within (first_from first s i) (value_before before s i) (drop i s) (place_parts first before s i e h)

-- the segments before a place have no say in the days from there on
pub place_value : (first before : ℕ) (s : List ℕ) (i d : ℕ) → parts first before s ≡ true → i ≤ length s → first_from first s i ≤ d → value_on s d ≡ value_on (drop i s) d
place_value first before s zero d e h p = refl
place_value first before [] (suc i) d e h p = absurd (not-suc-le-zero h)
place_value first before (w ∷ s) (suc i) d e h p =
    let k = begins first before w s e in
    let q = rw (first_next first w s i) at p in
    let r = place_within (suc (last_of w)) (value_of w) s k.rest i (omega arith) in
    value_past w s d (omega arith) ∙ place_value (suc (last_of w)) (value_of w) s i d k.rest (omega arith) q

-- the days of a segment have its value
pub place_on : (first before : ℕ) (s : List ℕ) (i d : ℕ) → parts first before s ≡ true → i < length s → first_from first s i ≤ d → d ≤ last_of (get_or s i 0) → value_on s d ≡ value_of (get_or s i 0)
place_on first before s i d e h p q =
    place_value first before s i d e (omega arith) p
    ∙ ap (λ l. value_on l d) (drop-cons s i 0 h)
    ∙ value_within (get_or s i 0) (drop (suc i) s) d q

-- The segments before a place begin the parting of every meaning that agrees with theirs up to the first day there.
pub place_before : (g : ℕ → ℕ) (first before n : ℕ) (s : List ℕ) (i : ℕ) → parts first before s ≡ true → first + n ≡ all_days → i ≤ length s
    → ((d : ℕ) → 0 < i → first ≤ d → d ≤ first_from first s i → g d ≡ value_on s d)
    → parting g first n ≡ take i s ++ parting g (first_from first s i) (all_days - first_from first s i)
unfolding first_from in_front
place_before g first before n s zero e p h a = ap (parting g first) (omega arith)
place_before g first before n [] (suc i) e p h a = absurd (not-suc-le-zero h)
place_before g first before n (w ∷ s) (suc i) e p h a =
    let k = begins first before w s e in
    let last = last_of w in
    let x = value_of w in
    let m = all_days - suc last in
    let most = parts_within (suc last) x s k.rest in
    let far = place_within (suc last) x s k.rest i (omega arith) in
    let agree : (d : ℕ) → first ≤ d → d ≤ first_from (suc last) s i → g d ≡ value_on (w ∷ s) d = λ d z u. a d (omega arith) z (rw (first_next first w s i) u) in
    let on : (d : ℕ) → first ≤ d → d ≤ last → g d ≡ x = λ d u v. agree d u (omega arith) ∙ value_within w s d v in
    let past : (d : ℕ) → last < d → d ≤ first_from (suc last) s i → g d ≡ value_on s d = λ d u v. agree d (omega (arith, k.from)) v ∙ value_past w s d u in
    let stop : ends_on g last m ≡ true = ends_before g last m s x k.rest (omega arith) (on last k.from (omega arith)) (past (suc last) (omega arith) (omega arith)) in
    let tail = place_before g (suc last) x m s i k.rest (omega arith) (omega arith) (λ d z u v. past d u v) in
    parting_piece g x (last - first) first last m n (omega (arith, k.from)) (omega (arith, k.from)) on
    ∙ ap₂ (λ t u. in_front t u (parting g (suc last) m)) stop (segment_word w)
    ∙ ap (λ r. w ∷ r) tail
    ∙ ap (λ y. w ∷ (take i s ++ parting g y (all_days - y))) (sym (first_next first w s i))
