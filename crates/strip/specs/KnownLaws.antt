-- What is known of the words of a strip that parts all days.
use Rattle.std.specs.Prelude.{ℕ, suc, ◌+◌, ◌-◌, ◌≤◌, ◌<◌, true, false, ◌&&◌, ◌≡◌, length, get_or, leb, eqb, ◌⊎◌}
use mathlib.Core.List.{List, [], ◌∷◌, ◌++◌}
use Rattle.std.proofs.Common.{◌∙◌, arith, length-take}
use borrow.Author.Tests.{leb-true, eqb-true, le-leb, lt-leb, eq-eqb, ne_eqb}
use Rattle.std.proofs.Math.Seq.{drop-length}
use Rattle.std.proofs.Math.Path.{sym, ap, ap₂}
use Rattle.std.proofs.Math.ListN.{take, drop}
use Rattle.strip.specs.Strips.{all_days, greatest_value, no_value, last_of, value_of, value_on, parts, parting}
use Rattle.strip.specs.PartingLaws.{parted, begins, value_within, value_past, Values}
use Rattle.strip.specs.Places.{first_day, value_before, place_parts, place_step, place_later, place_end, place_most, place_value, place_on, place_before}
use Rattle.strip.specs.StripCalls.{Lent, most_segments, segments, is_strip}
use Rattle.ground.specs.Tests.{both, below_or_not}
use Rattle.std.proofs.Math.Logic.{◌⊎◌.inl, ◌⊎◌.inr}

-- each day's value is one that a day may have
pub values_within : (first before : ℕ) (s : List ℕ) → parts first before s ≡ true → Values (value_on s)
unfolding value_on
values_within first before [] e d = omega arith
values_within first before (w ∷ s) e d = by_day (below_or_not (last_of w) d) (begins first before w s e).within (values_within (suc (last_of w)) (value_of w) s (begins first before w s e).rest d)
  where
    by_day : (last_of w < d) ⊎ (d ≤ last_of w) → value_of w ≤ greatest_value → value_on s d ≤ greatest_value → value_on (w ∷ s) d ≤ greatest_value
    by_day (inl p) h k = omega (arith, value_past w s d p)
    by_day (inr p) h k = omega (arith, value_within w s d p)

-- what the test of a lent strip tells
pub record Known (s : Lent) : Type 0 where
  pub good : parts 0 no_value (segments s) ≡ true
  pub most : s.count ≤ most_segments
  pub room : length s.words ≡ most_segments

pub strip_known : (s : Lent) → is_strip s ≡ true → Known s
unfolding is_strip
strip_known s e =
    let h = both (eqb (length s.words) most_segments && leb s.count most_segments) (parts 0 no_value (segments s)) e in
    let k = both (eqb (length s.words) most_segments) (leb s.count most_segments) h.0 in
    record { good = h.1; most = leb-true s.count most_segments k.1; room = eqb-true (length s.words) most_segments k.0 }

-- with the room of a strip, and no more in use, its test is that of the words in use; with other room, or more in use, it fails
pub strip_parts : (s : Lent) → length s.words ≡ most_segments → s.count ≤ most_segments → parts 0 no_value (segments s) ≡ is_strip s
unfolding is_strip
strip_parts s k h = ap₂ (λ t u. (t && u) && parts 0 no_value (segments s)) (sym (eq-eqb (length s.words) most_segments k)) (sym (le-leb s.count most_segments h))

pub too_many : (s : Lent) → length s.words ≡ most_segments → most_segments < s.count → false ≡ is_strip s
unfolding is_strip
too_many s k h = ap₂ (λ t u. (t && u) && parts 0 no_value (segments s)) (sym (eq-eqb (length s.words) most_segments k)) (sym (lt-leb s.count most_segments h))

pub wrong_room : (s : Lent) → (length s.words ≡ most_segments → ⊥) → false ≡ is_strip s
unfolding is_strip
wrong_room s h = ap (λ t. (t && leb s.count most_segments) && parts 0 no_value (segments s)) (sym (ne_eqb (length s.words) most_segments h))

pub used_length : (s : Lent) → Known s → length (segments s) ≡ s.count
used_length s known = omega (arith, length-take s.count s.words, known.most, known.room)

module _ (words : List ℕ) (good : parts 0 no_value words ≡ true) where
  pub first_step : (i : ℕ) → i < length words → first_day words i ≤ last_of (get_or words i 0)
  first_step = place_step 0 no_value words good

  pub first_later : (i k : ℕ) → i + k ≤ length words → first_day words i + k ≤ first_day words (i + k)
  first_later = place_later 0 no_value words good

  pub first_most_lem : (i : ℕ) → i ≤ length words → first_day words i ≤ all_days
  first_most_lem = place_most 0 no_value words good

  pub first_end : first_day words (length words) ≡ all_days
  first_end = place_end 0 no_value words good

  pub value_there : (i d : ℕ) → i < length words → first_day words i ≤ d → d ≤ last_of (get_or words i 0) → value_on words d ≡ value_of (get_or words i 0)
  value_there i d h p q = place_on 0 no_value words i d good h p q

  pub value_most : Values (value_on words)
  value_most = values_within 0 no_value words good

  -- the words from a place on are the parting of every meaning that agrees with the strip's there
  pub words_after : (g : ℕ → ℕ) (i : ℕ) → i ≤ length words → ((d : ℕ) → first_day words i ≤ d → g d ≡ value_on words d) → drop i words ≡ parting g (first_day words i) (all_days - first_day words i)
  words_after g i h a =
      let most = first_most_lem i h in
      parted g (first_day words i) (value_before no_value words i) (all_days - first_day words i) (drop i words) (place_parts 0 no_value words i good h) (omega arith)
      (λ d p. a d p ∙ place_value 0 no_value words i d good h p)

  -- and those before it begin the parting of every meaning that agrees up to it
  pub words_before : (g : ℕ → ℕ) (i : ℕ) → i ≤ length words → ((d : ℕ) → 0 < i → d ≤ first_day words i → g d ≡ value_on words d)
      → parting g 0 all_days ≡ take i words ++ parting g (first_day words i) (all_days - first_day words i)
  words_before g i h a = place_before g 0 no_value all_days words i good (omega arith) h (λ d p q r. a d p r)

  -- past the last segment there is nothing
  pub value_past_all : value_on words (first_day words (length words)) ≡ 0
  unfolding value_on
  value_past_all =
      place_value 0 no_value words (length words) (first_day words (length words)) good (omega arith) (omega arith)
      ∙ ap (λ r. value_on r (first_day words (length words))) (drop-length words)
