-- One piece of the walk: its days are raised alike, so they make one segment at most, and what holds of the walk holds after it.
use Prim.Native.Nat.{ℕ, suc, ◌+◌, ◌-◌, ◌≤◌, ◌<◌, max}
use Rattle.std.specs.Prelude.{Bool, true, false, ◌||◌, List, ◌⊎◌, ◌≡◌, refl, length, drop, get_or}
use Rattle.std.specs.Int.{from_bool}
use Rattle.std.proofs.Math.Bool.{cond, not}
use Rattle.std.proofs.Math.Logic.{◌⊎◌.inl, ◌⊎◌.inr}
use Rattle.std.proofs.Math.Path.{sym, ap, ap₂}
use Rattle.std.proofs.Common.{◌∙◌}
use native.Mathlib.Omega.{arith}
use borrow.Author.Tests.{eqb-true, eqb-false, eq-eqb}
use Rattle.std.proofs.Math.Dec.{eqb}
use Rattle.ground.specs.Boxes.{holds}
use Rattle.ground.specs.Facts.{Holding, holding, holds_so}
use Rattle.ground.specs.Tests.{same_test, below_or_not}
use Rattle.ground.specs.declared.boxes.Range.{Range}
use Rattle.strip.specs.Strips.{all_days, segment, last_of, value_of, ends_on, in_front, parting, raised}
use Rattle.strip.specs.PartingLaws.{parting_piece}
use Rattle.strip.specs.Places.{first_day}
use Rattle.strip.specs.Walking.{Fronted, piece_first, piece_value, words_of, after, Walked}
use Rattle.strip.specs.WalkingLaws.{first_next, piece_above, piece_among, piece_below}
use Rattle.strip.specs.KnownLaws.{first_later, first_most_lem, value_there}
use Rattle.strip.specs.declared.raising.Raise.{Raise}
use Rattle.strip.specs.declared.walking.Walk.{Walk}

-- where a piece begins: in its segment, not past its end, and on the same side of the record's ends as that
pub record Beginning (first last : ℕ) (days : Range) (from : ℕ) : Type 0 where
  pub inside : first ≤ from
  pub order : from ≤ last
  pub above : days.high < last → days.high < from
  pub among : last ≤ days.high → days.low ≤ last → days.low ≤ from
  pub cut : (first < from) → ((days.high < last) × (from ≡ days.high + 1)) ⊎ ((last ≤ days.high) × (days.low ≤ last) × (from ≡ days.low))

pub beginning : (first last : ℕ) (days : Range) (from : ℕ) → first ≤ last → from ≡ piece_first first last days → Beginning first last days from
beginning first last days from p e = by_high (below_or_not days.high last)
  where
    by_low : last ≤ days.high → (last < days.low) ⊎ (days.low ≤ last) → Beginning first last days from
    by_low h (inl k) =
        let z : from ≡ first = e ∙ piece_below first last days h k in
        record { inside = omega arith; order = omega arith; above = λ q. omega arith; among = λ q r. omega arith; cut = λ q. absurd (never q z) }
      where
        never : first < from → from ≡ first → ⊥
        never q z = omega arith
    by_low h (inr k) =
        let z : from ≡ max first days.low = e ∙ piece_among first last days h k in
        record { inside = omega arith; order = omega arith; above = λ q. omega arith; among = λ q r. omega arith; cut = λ q. inr (h, k, omega arith) }

    by_high : (days.high < last) ⊎ (last ≤ days.high) → Beginning first last days from
    by_high (inl h) =
        let z : from ≡ max first (days.high + 1) = e ∙ piece_above first last days h in
        record { inside = omega arith; order = omega arith; above = λ q. omega arith; among = λ q r. omega arith; cut = λ q. inl (h, omega arith) }
    by_high (inr h) = by_low h (below_or_not last days.low)

-- the days of a piece are all the record's or none
alike : (first last : ℕ) (days : Range) (from d : ℕ) → Beginning first last days from → from ≤ d → d ≤ last → holds days d ≡ holds days last
alike first last days from d h p q =
    same_test (holds days d) (holds days last)
    (λ e. let k = holding days d e in holds_so days last (up k.from k.to))
    (λ e. let k = holding days last e in holds_so days d (record { from = omega (arith, h.among k.to k.from); to = omega (arith, k.to) }))
  where
    up : days.low ≤ d → d ≤ days.high → Holding days last
    up a b = by_side (below_or_not days.high last)
      where
        by_side : (days.high < last) ⊎ (last ≤ days.high) → Holding days last
        by_side (inl k) = absurd (none (h.above k))
          where
            none : days.high < from → ⊥
            none z = omega arith
        by_side (inr k) = record { from = omega arith; to = k }

-- the room that is left, where the piece ends its segment and where it does not
room_whole : (i low high days from last place place' : ℕ) → suc last ≡ days → from ≤ last → suc i ≤ place → (low < days → suc i + 1 ≤ place) → (suc high < days → suc i + 2 ≤ place) → place ≤ place' + 1
    → (i ≤ place') × (low < from → i + 1 ≤ place') × (suc high < from → i + 2 ≤ place')
room_whole i low high days from last place place' e p a b c q =
    (omega arith, (λ u. let k = b (omega arith) in omega arith), λ u. let k = c (omega arith) in omega arith)

room_part : (i low high days from last place place' : ℕ) → suc last ≡ days → from ≤ last → ((high < last) × (from ≡ high + 1)) ⊎ ((last ≤ high) × (low ≤ last) × (from ≡ low))
    → (low < days → suc i + 1 ≤ place) → (suc high < days → suc i + 2 ≤ place) → place ≤ place' + 1
    → (suc i ≤ place') × (low < from → suc i + 1 ≤ place') × (suc high < from → suc i + 2 ≤ place')
room_part i low high days from last place place' e p (inl h) b c q =
    let k = c (omega (arith, h.0)) in
    (omega arith, (λ u. omega arith), λ u. omega (arith, h.1))
room_part i low high days from last place place' e p (inr h) b c q =
    let k = b (omega (arith, h.1)) in
    (omega arith, (λ u. omega (arith, h.2)), λ u. omega (arith, h.0))

-- A walk with a segment left, whose place and last day are named.
pub record Standing (r : Raise) (made : List ℕ) (at : Walk) (i last : ℕ) : Type 0 where
  pub walked : Walked r made at
  pub more : r.start ≤ i
  pub place_is : at.segments ≡ suc i
  pub last_is : at.days ≡ suc last

module _ (r : Raise) (made : List ℕ) (at : Walk) (i last : ℕ) (s : Standing r made at i last) where
  h : Walked r made at
  h = s.walked

  first_in : first_day (words_of r) i ≤ last
  unfolding h
  first_in =
      let z : at.segments - 1 ≡ i = omega (arith, s.place_is) in
      let k = rw z at (h.inside (omega (arith, s.more, s.place_is))) in
      omega (arith, s.last_is)

  last_in : last ≤ last_of (get_or (words_of r) i 0)
  unfolding h
  last_in =
      let k = rw (s.place_is, first_next (words_of r) i) at h.to in
      omega (arith, s.last_is)

  days_most : at.days ≤ all_days
  unfolding h
  days_most = omega (arith, h.to, first_most_lem (words_of r) r.segments.good at.segments h.most)

  segment_in : i < length (words_of r)
  unfolding h
  segment_in = omega (arith, h.most, s.place_is)

  -- the days of the piece have its value
  piece_days : (from value : ℕ) → Beginning (first_day (words_of r) i) last r.days from → value ≡ piece_value last (value_of (get_or (words_of r) i 0)) r.days r.value
      → (d : ℕ) → from ≤ d → d ≤ last → after r d ≡ value
  unfolding h raised
  piece_days from value b e d u v =
      let k = last_in in
      let there = value_there (words_of r) r.segments.good i d segment_in (omega (arith, b.inside)) (omega arith) in
      ap (λ x. cond (holds r.days d) (max x r.value) x) there
      ∙ ap (λ t. cond t (max (value_of (get_or (words_of r) i 0)) r.value) (value_of (get_or (words_of r) i 0))) (alike (first_day (words_of r) i) last r.days from d b u v)
      ∙ sym e

  -- and whether a segment ends with them is what the code tests
  piece_ends : (value : ℕ) → after r last ≡ value → ends_on (after r) last (all_days - at.days) ≡ (eqb at.days all_days || not (eqb value at.next))
  unfolding h ends_on
  piece_ends value e =
      let most = days_most in
      let none : eqb (all_days - at.days) 0 ≡ eqb at.days all_days =
      same_test (eqb (all_days - at.days) 0) (eqb at.days all_days)
      (λ t. let z = eqb-true (all_days - at.days) 0 t in eq-eqb at.days all_days (omega arith))
      (λ t. let z = eqb-true at.days all_days t in eq-eqb (all_days - at.days) 0 (omega arith)) in
      let follows : after r (suc last) ≡ at.next = ap (after r) (sym s.last_is) ∙ sym h.follows in
      ap (λ t. t || not (eqb (after r last) (after r (suc last)))) none
      ∙ ap₂ (λ x y. eqb at.days all_days || not (eqb x y)) e follows

  piece_made : (from value : ℕ) → Beginning (first_day (words_of r) i) last r.days from → value ≡ piece_value last (value_of (get_or (words_of r) i 0)) r.days r.value
      → in_front (eqb at.days all_days || not (eqb value at.next)) (segment last value) (drop at.place made) ≡ parting (after r) from (all_days - from)
  unfolding h
  piece_made from value b e =
      let most = days_most in
      let on = piece_days from value b e in
      let g = after r in
      let days = at.days in
      ap₂ (λ t l. in_front t (segment last value) l) (sym (piece_ends value (on last b.order (omega arith)))) h.done
      ∙ ap (λ k. in_front (ends_on g last (all_days - days)) (segment last value) (parting g k (all_days - days))) s.last_is
      ∙ sym (parting_piece g value (last - from) from last (all_days - days) (all_days - from) (omega (arith, b.order)) (omega (arith, b.order, s.last_is)) on)

  -- the walk after the piece: the same segment with a day less at least, or the one before it
  module _ (made' : List ℕ) (from value place : ℕ) (b : Beginning (first_day (words_of r) i) last r.days from)
      (e : value ≡ piece_value last (value_of (get_or (words_of r) i 0)) r.days r.value)
      (f : Fronted made made' at.place (eqb at.days all_days || not (eqb value at.next)) (segment last value) place) where
    start_before : first_day (words_of r) r.start ≤ from
    unfolding h
    start_before =
        let k = first_later (words_of r) r.segments.good r.start (i - r.start) (omega (arith, s.more, segment_in)) in
        let z : r.start + (i - r.start) ≡ i = omega (arith, s.more) in
        omega (arith, rw z at k, b.inside)

    made_done : drop place made' ≡ parting (after r) from (all_days - from)
    made_done = f.words ∙ piece_made from value b e

    still : (segments : ℕ) → segments ≤ length (words_of r) → r.start ≤ segments → from ≤ first_day (words_of r) segments → (r.start < segments → first_day (words_of r) (segments - 1) < from)
        → (segments ≤ place) × (r.days.low < from → segments + 1 ≤ place) × (suc r.days.high < from → segments + 2 ≤ place)
        → Walked r made' (record { segments = segments; days = from; place = place; next = value })
    unfolding h
    still segments a c d k m =
        record {
          most = a;
          least = c;
          from = start_before;
          to = d;
          inside = k;
          done = made_done;
          follows = sym (piece_days from value b e from (omega arith) b.order);
          room = m.0;
          room_low = m.1;
          room_high = m.2;
          end = omega (arith, f.most, h.end);
          long = f.long ∙ h.long;
        }

    pub next_segment : from ≡ first_day (words_of r) i → Walked r made' (record { segments = i; days = from; place = place; next = value })
    unfolding h
    next_segment z =
        let k = segment_in in
        still i (omega arith) s.more (omega arith) (before s.more)
        (room_whole i r.days.low r.days.high at.days from last at.place place (sym s.last_is) b.order
        (omega (arith, h.room, s.place_is)) (rw s.place_is at h.room_low) (rw s.place_is at h.room_high) f.least)
      where
        before : r.start ≤ i → r.start < i → first_day (words_of r) (i - 1) < from
        before u v =
            let y : (i - 1) + 1 ≡ i = omega arith in
            let k = rw y at (first_later (words_of r) r.segments.good (i - 1) 1 (omega (arith, segment_in))) in
            omega arith

    pub same_segment : first_day (words_of r) i < from → Walked r made' (record { segments = suc i; days = from; place = place; next = value })
    unfolding h
    same_segment z =
        let k = segment_in in
        let t = rw s.place_is at h.to in
        still (suc i) (omega arith) (omega (arith, s.more)) (omega (arith, b.order, s.last_is)) (λ u. rw (one_less i) z)
        (room_part i r.days.low r.days.high at.days from last at.place place (sym s.last_is) b.order (b.cut z)
        (rw s.place_is at h.room_low) (rw s.place_is at h.room_high) f.least)
      where
        one_less : (i : ℕ) → suc i - 1 ≡ i
        one_less i = omega arith

-- One turn of the walk.
pub piece_taken : (r : Raise) (made made' : List ℕ) (at : Walk) (first from v value w place segments : ℕ) → Walked r made at → r.start < at.segments
    → first ≡ first_day (words_of r) (at.segments - 1) → from ≡ piece_first first (at.days - 1) r.days
    → v ≡ value_of (get_or (words_of r) (at.segments - 1) 0) → value ≡ piece_value (at.days - 1) v r.days r.value → w ≡ segment (at.days - 1) value
    → Fronted made made' at.place (eqb at.days all_days || not (eqb value at.next)) w place → segments ≡ at.segments - from_bool (eqb from first)
    → Walked r made' (record { segments = segments; days = from; place = place; next = value }) × (from < at.days)
piece_taken r made made' at first from v value w place segments h p e1 e2 e3 e4 e5 f e6 =
    let i = at.segments - 1 in
    let last = at.days - 1 in
    let u = h.inside p in
    let s : Standing r made at i last = record { walked = h; more = omega arith; place_is = omega arith; last_is = omega arith } in
    let b : Beginning (first_day (words_of r) i) last r.days from = rw e1 at (beginning first last r.days from (omega arith) e2) in
    let e = rw e3 at e4 in
    let g = rw e5 at f in
    (by_test s b e g (eqb from first) refl, omega (arith, b.order))
  where
    W : ℕ → Type 0
    W k = Walked r made' (record { segments = k; days = from; place = place; next = value })

    by_test : Standing r made at (at.segments - 1) (at.days - 1) → Beginning (first_day (words_of r) (at.segments - 1)) (at.days - 1) r.days from
        → value ≡ piece_value (at.days - 1) (value_of (get_or (words_of r) (at.segments - 1) 0)) r.days r.value
        → Fronted made made' at.place (eqb at.days all_days || not (eqb value at.next)) (segment (at.days - 1) value) place
        → (t : Bool) → eqb from first ≡ t → W segments
    by_test s b e g true t =
        let z : segments ≡ at.segments - 1 = e6 ∙ ap (λ x. at.segments - from_bool x) t in
        rw z (next_segment r made at (at.segments - 1) (at.days - 1) s made' from value place b e g (eqb-true from first t ∙ e1))
    by_test s b e g false t =
        let z : segments ≡ suc (at.segments - 1) = e6 ∙ ap (λ x. at.segments - from_bool x) t ∙ omega (arith, s.place_is) in
        let k = eqb-false from first t in
        rw z (same_segment r made at (at.segments - 1) (at.days - 1) s made' from value place b e g (apart from first (first_day (words_of r) (at.segments - 1)) e1 k b.inside))
      where
        apart : (a c d : ℕ) → c ≡ d → (a ≡ c → ⊥) → d ≤ a → d < a
        apart a c d x y z = omega arith
