-- What holds of strips and of their calls.
use Rattle.std.specs.Prelude.{ℕ, ◌+◌, ◌≤◌, max, Bool, true, false, cond, not, ◌&&◌, List, ◌++◌, ◌≡◌, eqb, take}
use Rattle.std.proofs.Math.Path.{refl}
use Rattle.std.proofs.Common.{sym, ap, ◌∙◌, arith, take-append-drop}
use borrow.Author.Tests.{leb-true, le-leb, eqb-true, eq-eqb}
use Rattle.std.proofs.Math.Dec.{leb}
use Rattle.std.proofs.Math.ListN.{length, drop, length-append, length-drop}
use Rattle.std.proofs.Math.Seq.{take-append_seam}
use Rattle.ground.specs.Boxes.{day_limit, gust_limit, holds, legal_on}
use Rattle.ground.specs.Facts.{holding, legal_on_lem}
use Rattle.ground.specs.Tests.{joint}
use Rattle.ground.specs.declared.boxes.Range.{Range}
use Rattle.strip.specs.Strips.{all_days, greatest_value, no_value, value_on, parts, raised}
use Rattle.strip.specs.StripCalls.{Lent, most_segments, segments, meaning, is_strip, stand_for, holding as holding_new, Left, refused, cleared, with_record, fitted, recorded}
use Rattle.strip.specs.PartingLaws.{parting_same, parted, Values, parting_means, parting_parts}
use Rattle.strip.specs.KnownLaws.{strip_known, used_length, value_most}
use Rattle.strip.specs.CallLaws.{all_nothing}

-- A strip's segments are the parting of its meaning.
pub strip_stands : (s : Lent) → is_strip s ≡ true → segments s ≡ stand_for (meaning s)
strip_stands s e = parted (meaning s) 0 no_value all_days (segments s) (strip_known s e).good (omega arith) (λ d p. refl)

-- "Two strips of equal meaning are equal segment for segment."
pub equal_meaning : (s t : Lent) → is_strip s ≡ true → is_strip t ≡ true → ((d : ℕ) → d ≤ day_limit → meaning s d ≡ meaning t d) → segments s ≡ segments t
equal_meaning s t a b h =
    strip_stands s a
    ∙ parting_same (meaning s) (meaning t) 0 all_days (λ d p q. h d (omega arith))
    ∙ sym (strip_stands t b)

-- each day of a strip has a value that a day may have
pub strip_values : (s : Lent) → is_strip s ≡ true → Values (meaning s)
strip_values s e = value_most (segments s) (strip_known s e).good

-- New segments for a meaning are a strip that means it.
pub held_segments : (new : List ℕ) (s : Lent) → segments (holding_new new s) ≡ new
unfolding holding_new
held_segments new s = take-append_seam new (drop (length new) s.words)

module _ (f : ℕ → ℕ) (h : Values f) (s : Lent) (room : length s.words ≡ most_segments) (few : length (stand_for f) ≤ most_segments) where
  new_strip : is_strip (holding_new (stand_for f) s) ≡ true
  unfolding is_strip holding_new
  new_strip =
      let new = stand_for f in
      let size : length (new ++ drop (length new) s.words) ≡ most_segments = omega (arith, length-append new (drop (length new) s.words), length-drop (length new) s.words) in
      joint (eqb (length (new ++ drop (length new) s.words)) most_segments && leb (length new) most_segments) (parts 0 no_value (take (length new) (new ++ drop (length new) s.words)))
      (joint (eqb (length (new ++ drop (length new) s.words)) most_segments) (leb (length new) most_segments) (eq-eqb (length (new ++ drop (length new) s.words)) most_segments size) (le-leb (length new) most_segments few))
      (ap (parts 0 no_value) (take-append_seam new (drop (length new) s.words)) ∙ parting_parts f h 0 no_value 0 all_days (omega arith) (omega arith) (λ u e. omega (arith, h 0)) (λ z. omega arith))

  new_meaning : (d : ℕ) → d ≤ day_limit → meaning (holding_new (stand_for f) s) d ≡ f d
  new_meaning d p = ap (λ l. value_on l d) (held_segments (stand_for f) s) ∙ parting_means f h 0 all_days d (omega arith) (omega arith) ∙ ap f (zero_max d)
    where
      zero_max : (d : ℕ) → max 0 d ≡ d
      zero_max d = omega arith

-- raising
pub raised_in : (days : Range) (x : ℕ) (f : ℕ → ℕ) (d : ℕ) → holds days d ≡ true → raised days x f d ≡ max (f d) x
unfolding raised
raised_in days x f d h = rw h refl

pub raised_out : (days : Range) (x : ℕ) (f : ℕ → ℕ) (d : ℕ) → holds days d ≡ false → raised days x f d ≡ f d
unfolding raised
raised_out days x f d h = rw h refl

raised_values : (days : Range) (x : ℕ) (f : ℕ → ℕ) → Values f → x ≤ greatest_value → Values (raised days x f)
raised_values days x f h p d = by_test (holds days d) refl
  where
    by_test : (t : Bool) → holds days d ≡ t → raised days x f d ≤ greatest_value
    by_test true e = omega (arith, raised_in days x f d e, h d)
    by_test false e = omega (arith, raised_out days x f d e, h d)

-- A record that is not refused: every test passed, and the result stands in the strip's first words.
pub record Kept (s : Lent) (days : Range) (gust : ℕ) : Type 0 where
  pub lawful : legal_on day_limit days ≡ true
  pub small : gust ≤ gust_limit
  pub was : is_strip s ≡ true
  pub few : length (with_record s days gust) ≤ most_segments

pub kept : (s : Lent) (days : Range) (gust : ℕ) → (recorded s days gust).refusal ≡ 0 → Kept s days gust
unfolding recorded fitted
kept s days gust e = by_tests (legal_on day_limit days) (leb gust gust_limit) (is_strip s) (leb (length (with_record s days gust)) most_segments) refl refl refl refl e
  where
    after : Bool → Bool → Bool → Bool → Left
    after a b c d =
        cond (not a) (refused 2 s) (cond (not b) (refused 3 s) (cond (not c) (refused 4 s) (cond d (record { refusal = 0; strip = holding_new (with_record s days gust) s }) (refused 10 s))))

    by_tests : (a b c d : Bool) → legal_on day_limit days ≡ a → leb gust gust_limit ≡ b → is_strip s ≡ c → leb (length (with_record s days gust)) most_segments ≡ d → (after a b c d).refusal ≡ 0 → Kept s days gust
    by_tests true true true true p q u v z = record { lawful = p; small = leb-true gust gust_limit q; was = u; few = leb-true (length (with_record s days gust)) most_segments v }
    by_tests true true true false p q u v z = absurd (ten z)
      where
        ten : ◌≡◌ {A = ℕ} 10 0 → ⊥
        ten z = omega arith
    by_tests true true false d p q u v z = absurd (four z)
      where
        four : ◌≡◌ {A = ℕ} 4 0 → ⊥
        four z = omega arith
    by_tests true false c d p q u v z = absurd (three z)
      where
        three : ◌≡◌ {A = ℕ} 3 0 → ⊥
        three z = omega arith
    by_tests false b c d p q u v z = absurd (two z)
      where
        two : ◌≡◌ {A = ℕ} 2 0 → ⊥
        two z = omega arith

module _ (s : Lent) (days : Range) (gust : ℕ) (k : Kept s days gust) where
  pub kept_so : recorded s days gust ≡ record { refusal = 0; strip = holding_new (with_record s days gust) s }
  unfolding recorded fitted
  kept_so = rw (k.lawful, le-leb gust gust_limit k.small, k.was, le-leb (length (with_record s days gust)) most_segments k.few) refl

  raised_so : Values (raised days (gust + 1) (meaning s))
  raised_so = raised_values days (gust + 1) (meaning s) (strip_values s k.was) (omega (arith, k.small))

  -- It leaves a strip, in which each of its days is raised to the greater gust.
  pub kept_strip : is_strip (recorded s days gust).strip ≡ true
  unfolding with_record
  kept_strip = rw kept_so (new_strip (raised days (gust + 1) (meaning s)) raised_so s (strip_known s k.was).room k.few)

  pub kept_means : (d : ℕ) → d ≤ day_limit → meaning (recorded s days gust).strip d ≡ raised days (gust + 1) (meaning s) d
  unfolding with_record
  kept_means d p = rw kept_so (new_meaning (raised days (gust + 1) (meaning s)) raised_so s (strip_known s k.was).room k.few d p)

-- A refusal leaves the strip as it was.
pub refused_keeps : (s : Lent) (days : Range) (gust : ℕ) → ((recorded s days gust).refusal ≡ 0 → ⊥) → (recorded s days gust).strip ≡ s
unfolding recorded fitted
refused_keeps s days gust h = by_tests (legal_on day_limit days) (leb gust gust_limit) (is_strip s) (leb (length (with_record s days gust)) most_segments) h
  where
    by_tests : (a b c d : Bool)
        → ((cond (not a) (refused 2 s) (cond (not b) (refused 3 s) (cond (not c) (refused 4 s) (cond d (record { refusal = 0; strip = holding_new (with_record s days gust) s }) (refused 10 s))))).refusal ≡ 0 → ⊥)
        → (cond (not a) (refused 2 s) (cond (not b) (refused 3 s) (cond (not c) (refused 4 s) (cond d (record { refusal = 0; strip = holding_new (with_record s days gust) s }) (refused 10 s))))).strip ≡ s
    by_tests true true true true g = absurd (g refl)
    by_tests true true true false g = refl
    by_tests true true false d g = refl
    by_tests true false c d g = refl
    by_tests false b c d g = refl

-- A record of no more than what its days have changes no word.
pub already : (s : Lent) (days : Range) (gust : ℕ) → legal_on day_limit days ≡ true → gust ≤ gust_limit → is_strip s ≡ true
    → ((d : ℕ) → holds days d ≡ true → gust + 1 ≤ meaning s d) → recorded s days gust ≡ record { refusal = 0; strip = s }
unfolding with_record holding_new
already s days gust l g e h =
    let known = strip_known s e in
    let size = used_length s known in
    let same : with_record s days gust ≡ segments s = parting_same (raised days (gust + 1) (meaning s)) (meaning s) 0 all_days (λ d p q. by_test d (holds days d) refl) ∙ sym (strip_stands s e) in
    let k : Kept s days gust = record { lawful = l; small = g; was = e; few = omega (arith, ap length same, known.most) } in
    kept_so s days gust k
    ∙ ap (λ new. record { refusal = 0; strip = record { words = new ++ drop (length new) s.words; count = length new } }) same
    ∙ ap (λ n. record { refusal = 0; strip = record { words = segments s ++ drop n s.words; count = n } }) size
    ∙ ap (λ w. record { refusal = 0; strip = record { words = w; count = s.count } }) (take-append-drop s.count s.words)
  where
    by_test : (d : ℕ) (t : Bool) → holds days d ≡ t → raised days (gust + 1) (meaning s) d ≡ meaning s d
    by_test d true p = raised_in days (gust + 1) (meaning s) d p ∙ (let k = h d p in omega arith)
    by_test d false p = raised_out days (gust + 1) (meaning s) d p

-- Feeding the same again changes nothing.
pub again : (s : Lent) (days : Range) (gust : ℕ) → (recorded s days gust).refusal ≡ 0 → recorded (recorded s days gust).strip days gust ≡ record { refusal = 0; strip = (recorded s days gust).strip }
again s days gust e =
    let k = kept s days gust e in
    let l = legal_on_lem day_limit days k.lawful in
    already (recorded s days gust).strip days gust k.lawful k.small (kept_strip s days gust k)
    (λ d p. let a = holding days d p in omega (arith, kept_means s days gust k d (omega (arith, a.to, l.within)), raised_in days (gust + 1) (meaning s) d p))

-- The strip that is all nothing.
pub cleared_strip : (s : Lent) → (cleared s).refusal ≡ 0 → (is_strip (cleared s).strip ≡ true) × ((d : ℕ) → d ≤ day_limit → meaning (cleared s).strip d ≡ 0)
unfolding cleared
cleared_strip s e = by_test (eqb (length s.words) most_segments) refl e
  where
    Nothing : Left → Type 0
    Nothing l = (is_strip l.strip ≡ true) × ((d : ℕ) → d ≤ day_limit → meaning l.strip d ≡ 0)

    by_test : (t : Bool) → eqb (length s.words) most_segments ≡ t → (cond t (record { refusal = 0; strip = holding_new (stand_for (λ d. 0)) s }) (refused 4 s)).refusal ≡ 0
        → Nothing (cond t (record { refusal = 0; strip = holding_new (stand_for (λ d. 0)) s }) (refused 4 s))
    by_test false h z = absurd (four z)
      where
        four : ◌≡◌ {A = ℕ} 4 0 → ⊥
        four z = omega arith
    by_test true h z =
        let room = eqb-true (length s.words) most_segments h in
        let few : length (stand_for (λ d. 0)) ≤ most_segments = omega (arith, ap length all_nothing) in
        (new_strip (λ d. 0) (λ d. omega arith) s room few, new_meaning (λ d. 0) (λ d. omega arith) s room few)
