-- Asking: the segment that has a day, and the greatest value over the segments from one to another.
use Prim.Native.Nat.{ℕ, zero, suc, ◌+◌, ◌-◌, ◌≤◌, ◌<◌, max}
use Rattle.std.specs.Prelude.{List, [], ◌∷◌, Bool, cond, ◌⊎◌, ◌≡◌, refl, true, false, ltb, length, take, drop, get_or, fold}
use Rattle.std.proofs.Math.Logic.{◌⊎◌.inl, ◌⊎◌.inr}
use Rattle.std.proofs.Common.{ap, sym, ◌∙◌, add-one, one-add, drop-cons, get_or-drop, length-drop}
use Rattle.std.proofs.lemmas.List.{take_rest, drop_all}
use Rattle.std.specs.List.{prefix_len}
use Rattle.std.proofs.lemmas.List.Sums.{prefix_len_passes, prefix_len_stops, prefix_len-le-length}
use native.Mathlib.Omega.{arith}
use borrow.Author.Tests.{ltb-true, ltb-false, lt-ltb, le-ltb}
use Rattle.std.specs.List.Sorted.{IsNonDecreasingBy, IsPartitionPoint}
use Rattle.std.proofs.lemmas.List.Sorted.{IsNonDecreasingBy-from_default}
use Rattle.ground.specs.Boxes.{day_limit}
use Rattle.ground.specs.Facts.{LegalOn}
use Rattle.ground.specs.Tests.{below_or_not}
use Rattle.ground.specs.declared.boxes.Range.{Range}
use Rattle.strip.specs.Strips.{all_days, greatest_value, no_value, last_of, value_of, value_on, parts, greatest_on}
use Rattle.strip.specs.PartingLaws.{Values}
use Rattle.strip.specs.Places.{first_from, first_day, Found}
use Rattle.strip.specs.WalkingLaws.{first_next}
use Rattle.strip.specs.KnownLaws.{first_step, first_later, first_end, value_there}

-- days of one value
pub greatest_piece : (f : ℕ → ℕ) (x k d last n m : ℕ) → d + k ≡ last → m ≡ suc k + n → ((e : ℕ) → d ≤ e → e ≤ last → f e ≡ x) → greatest_on f d m ≡ max x (greatest_on f (suc last) n)
unfolding greatest_on
greatest_piece f x zero d last n m p q h =
    let a : last ≡ d = omega arith in
    let b : m ≡ suc n = omega arith in
    rw (a, b) (ap (λ y. max y (greatest_on f (suc d) n)) (h d (omega arith) (omega arith)))
greatest_piece f x (suc k) d last n m p q h =
    let b : m ≡ suc (suc k + n) = omega arith in
    let tail = greatest_piece f x k (suc d) last n (suc k + n) (omega arith) refl (λ e u v. h e (omega arith) (omega arith)) in
    let here = h d (omega arith) (omega arith) in
    rw b (omega arith)

pub greatest_most : (f : ℕ → ℕ) (d n : ℕ) → Values f → greatest_on f d n ≤ greatest_value
unfolding greatest_on
greatest_most f d zero h = omega arith
greatest_most f d (suc n) h = let k = greatest_most f (suc d) n h in omega (arith, h d)

module _ (words : List ℕ) (good : parts 0 no_value words ≡ true) where
  -- a later segment ends later
  later : (i k : ℕ) → i + k < length words → last_of (get_or words i 0) + k ≤ last_of (get_or words (i + k) 0)
  later i k h =
      let a = first_later words good (suc i) k (omega arith) in
      let z : suc i + k ≡ suc (i + k) = omega arith in
      let b = rw (z, first_next words i, first_next words (i + k)) at a in
      omega arith

  pub ends_rise : (i j : ℕ) → i ≤ j → j < length words → last_of (get_or words i 0) ≤ last_of (get_or words j 0)
  ends_rise i j p q =
      let z : i + (j - i) ≡ j = omega arith in
      let a = rw z at (later i (j - i) (omega arith)) in
      omega arith

  pub ends_sorted : IsNonDecreasingBy (λ w. last_of w) words
  ends_sorted = IsNonDecreasingBy-from_default (λ w. last_of w) words 0 ends_rise

  -- past the last segment that ends before a day is the one that has it
  module _ (day i : ℕ) (h : day ≤ day_limit) (p : i ≤ length words) (point : IsPartitionPoint (λ w. ltb (last_of w) day ≡ true) (λ w. ltb (last_of w) day ≡ false) words i) where
    ends_before_day : (k : ℕ) → k < i → last_of (get_or words k 0) < day
    ends_before_day k q = ltb-true (last_of (get_or words k 0)) day (point.0 k 0 (omega arith) q)

    not_past : (n : ℕ) → length words ≡ n → i < n
    unfolding first_from
    not_past zero e = absurd (none (rw e at (first_end words good)))
      where
        none : 0 ≡ all_days → ⊥
        none z = omega arith
    not_past (suc m) e = by_end (below_or_not m i)
      where
        by_end : (m < i) ⊎ (i ≤ m) → i < suc m
        by_end (inr q) = omega arith
        by_end (inl q) =
            let a = ends_before_day m q in
            let z = rw (e, first_next words m) at (first_end words good) in
            omega arith

    begins_by : (j : ℕ) → i ≡ j → first_day words j ≤ day
    unfolding first_from
    begins_by zero e = omega arith
    begins_by (suc k) e = let a = ends_before_day k (omega arith) in omega arith

    pub found_there : Found words day i
    found_there =
        let inside = not_past (length words) refl in
        record { inside = inside; from = begins_by i refl; to = ltb-false (last_of (get_or words i 0)) day (point.1 i 0 (omega arith) inside) }

  -- the greatest value over the segments from the one that has a day to the one that has a later day
  greatest_from : (k i from high best : ℕ) → Found words from i → Found words high (i + k) → from ≤ high
      → fold (λ a w. max a (value_of w)) best (take (suc k) (drop i words)) ≡ max best (greatest_on (value_on words) from (suc high - from))
  unfolding greatest_on
  greatest_from zero i from high best a b p =
      let z : i + 0 ≡ i = omega arith in
      let to = rw z at b.to in
      let on = greatest_piece (value_on words) (value_of (get_or words i 0)) (high - from) from high 0 (suc high - from) (omega arith) (omega arith)
      (λ d u v. value_there words good i d a.inside (omega (arith, a.from)) (omega arith)) in
      rw (drop-cons words i 0 a.inside) (omega arith)
  greatest_from (suc k) i from high best a b p =
      let last = last_of (get_or words i 0) in
      let value = value_of (get_or words i 0) in
      let z : i + suc k ≡ suc i + k = omega arith in
      let next = first_next words i in
      let inner : suc i < length words = omega (arith, b.inside) in
      let c : Found words high (suc i + k) = rw z at b in
      let far = first_later words good (suc i) k (omega (arith, b.inside)) in
      let q : suc last ≤ high = omega (arith, c.from) in
      let here : Found words (suc last) (suc i) = record { inside = inner; from = omega arith; to = omega (arith, first_step words good (suc i) inner) } in
      let tail = greatest_from k (suc i) (suc last) high (max best value) here c q in
      let on = greatest_piece (value_on words) value (last - from) from last (suc high - suc last) (suc high - from) (omega (arith, a.to)) (omega (arith, a.to))
      (λ d u v. value_there words good i d a.inside (omega (arith, a.from)) v) in
      rw (drop-cons words i 0 a.inside) (omega arith)

  pub greatest_over : (days : Range) (i j : ℕ) → LegalOn day_limit days → Found words days.low i → Found words days.high j → i ≤ j
      → fold (λ a w. max a (value_of w)) 0 (take (j + 1 - i) (drop i words)) ≡ greatest_on (value_on words) days.low (suc days.high - days.low)
  greatest_over days i j l a b p =
      let z : suc (j - i) ≡ j + 1 - i = omega arith in
      let y : i + (j - i) ≡ j = omega arith in
      let k = rw z at (greatest_from (j - i) i days.low days.high 0 a (rw y b) l.order) in
      omega arith

  -- past the segments that end before it is the one that has a later day
  module _ (day i n : ℕ) (lawful : day ≤ day_limit) (some : i < length words) (begun : first_day words i ≤ day)
      (seen : n ≡ prefix_len (λ w. ltb (last_of w) day) (take (length words - i) (drop i words))) where
    e : n ≡ prefix_len (λ w. ltb (last_of w) day) (drop i words)
    e = simp take_rest at seen

    passed_by : (k : ℕ) → k < n → last_of (get_or words (i + k) 0) < day
    passed_by k q =
        let p = prefix_len_passes (λ w. ltb (last_of w) day) (drop i words) k 0 (omega (arith, e)) in
        ltb-true (last_of (get_or words (i + k) 0)) day (rw (get_or-drop i words k 0) at p)

    not_all : i + n < length words
    not_all = by_end (below_or_not (i + n) (length words))
      where
        by_end : (i + n < length words) ⊎ (length words ≤ i + n) → i + n < length words
        by_end (inl q) = q
        by_end (inr q) =
            let most = prefix_len-le-length (λ w. ltb (last_of w) day) (drop i words) in
            let k = length words - suc i in
            let z : suc (i + k) ≡ length words = omega arith in
            let y : suc k ≡ n = omega (arith, e, length-drop i words) in
            let p = passed_by k (omega arith) in
            let o = rw (← z, first_next words (i + k)) at (first_end words good) in
            omega arith

    begins_before : (m : ℕ) → n ≡ m → first_day words (i + m) ≤ day
    begins_before zero z = let y : i + 0 ≡ i = omega arith in rw y begun
    begins_before (suc k) z =
        let y : i + suc k ≡ suc (i + k) = omega arith in
        let p = passed_by k (omega arith) in
        rw (y, first_next words (i + k)) (omega arith)

    pub later_found : Found words day (i + n)
    later_found =
        let inside = not_all in
        let p = prefix_len_stops (λ w. ltb (last_of w) day) (drop i words) 0 (omega (arith, e, length-drop i words)) in
        let q = rw (← e, get_or-drop i words n 0) at p in
        record { inside = inside; from = begins_before n refl; to = ltb-false (last_of (get_or words (i + n) 0)) day q }

  -- the segments from the one that has a day on, up to the first that ends on a later day or after it
  pub greatest_until :
      (days : Range) (i best : ℕ) (rest : List ℕ) → LegalOn day_limit days → Found words days.low i → rest ≡ take (length words - i) (drop i words)
      → best ≡ fold (λ a w. max a (value_of w)) 0 (take (suc (prefix_len (λ w. ltb (last_of w) days.high) rest)) rest) → best ≡ greatest_on (value_on words) days.low (suc days.high - days.low)
  greatest_until days i best rest l a r e =
      let n = prefix_len (λ w. ltb (last_of w) days.high) rest in
      let there = later_found days.high i n (omega (arith, l.within)) a.inside (omega (arith, a.from, l.order)) (ap (prefix_len (λ w. ltb (last_of w) days.high)) r) in
      let all : rest ≡ drop i words = simp take_rest at r in
      let z : suc n ≡ i + n + 1 - i = omega arith in
      e ∙ ap (λ (ws : List ℕ). fold (λ a w. max a (value_of w)) 0 (take (suc n) ws)) all
      ∙ ap (λ (m : ℕ). fold (λ a w. max a (value_of w)) 0 (take m (drop i words))) z
      ∙ greatest_over days i (i + n) l a there (omega arith)

-- The greatest value, from one so far on, of the segments up to the first that ends on a day or after it.
unfoldable pub up_to : ℕ → List ℕ → ℕ → ℕ
up_to day [] best = best
up_to day (w ∷ ws) best = cond (ltb (last_of w) day) (up_to day ws (max best (value_of w))) (max best (value_of w))

pub up_to_is : (day : ℕ) (ws : List ℕ) (best : ℕ) → up_to day ws best ≡ fold (λ a w. max a (value_of w)) best (take (suc (prefix_len (λ w. ltb (last_of w) day) ws)) ws)
unfolding up_to
up_to_is day [] best = refl
up_to_is day (w ∷ ws) best = by_test (ltb (last_of w) day) (up_to_is day ws (max best (value_of w)))
  where
    by_test :
        (t : Bool) → up_to day ws (max best (value_of w)) ≡ fold (λ a w. max a (value_of w)) (max best (value_of w)) (take (suc (prefix_len (λ w. ltb (last_of w) day) ws)) ws)
        → cond t (up_to day ws (max best (value_of w))) (max best (value_of w))
        ≡ fold (λ a w. max a (value_of w)) best (take (suc (cond t (1 + prefix_len (λ w. ltb (last_of w) day) ws) 0)) (w ∷ ws))
    by_test true h = h ∙ ap (λ m. fold (λ a w. max a (value_of w)) best (take (suc m) (w ∷ ws))) (sym (one-add (prefix_len (λ w. ltb (last_of w) day) ws)))
    by_test false h = refl

module _ (day : ℕ) (words : List ℕ) (best i : ℕ) where
  pub up_to_more : i < length words → last_of (get_or words i 0) < day → up_to day (drop i words) best ≡ up_to day (drop (i + 1) words) (max best (value_of (get_or words i 0)))
  unfolding up_to
  up_to_more h p = rw (drop-cons words i 0 h, add-one i, lt-ltb (last_of (get_or words i 0)) day p) refl

  pub up_to_last : i < length words → day ≤ last_of (get_or words i 0) → up_to day (drop i words) best ≡ max best (value_of (get_or words i 0))
  unfolding up_to
  up_to_last h p = rw (drop-cons words i 0 h, le-ltb (last_of (get_or words i 0)) day p) refl

  pub up_to_none : length words ≤ i → up_to day (drop i words) best ≡ best
  unfolding up_to
  up_to_none h = rw (drop_all i words h) refl
