-- Laws of the calls' steps: each closes a return.
use Rattle.std.specs.Prelude.{ℕ, suc, ◌+◌, ◌-◌, ◌≤◌, ◌<◌, min, Bool, true, false, not, ◌&&◌, List, [], ◌∷◌, ◌++◌, Option, Ok, Err, ◌≡◌, leb, eqb, length, get_or, set}
use Rattle.std.proofs.Common.{append-nil, append_assoc, drop-drop, ◌∙◌, add-one, arith, length-append, length-take, drop_at, length-take-le}
use Rattle.std.proofs.Math.Path.{refl, sym, ap}
use borrow.Author.Tests.{le-leb, lt-leb, eq-eqb, ne_eqb, not-true, not-false}
use Rattle.std.proofs.Math.ListN.{take, drop, length-drop, drop_of_length-le}
use borrow.Rule.Slice.PartMut.{put_mid}
use Rattle.ground.specs.Boxes.{day_limit, gust_limit, holds, legal_on}
use Rattle.ground.specs.Facts.{holding}
use Rattle.ground.specs.Tests.{fails}
use Rattle.ground.specs.declared.boxes.Range.{Range}
use Rattle.ground.specs.declared.refusals.Refusal.TheVariants as no
use Rattle.strip.specs.Strips.{all_days, greatest_value, segment, value_of, value_on, parts, no_value, in_front, parting, raised, greatest_on}
use Rattle.strip.specs.StripCalls.{Lent, most_segments, segments, meaning, is_strip, stand_for, holding as holding_new, Left, refused, cleared, with_record, fitted, recorded, greatest_in, answer_of, asked, lent}
use Rattle.strip.specs.PartingLaws.{parting_piece, ends_last}
use Rattle.strip.specs.Places.{first_day, Found}
use Rattle.strip.specs.Walking.{words_of, after, Walked}
use Rattle.strip.specs.WalkingLaws.{first_next, Passed, passed_all}
use Rattle.strip.specs.KnownLaws.{Known, strip_parts, first_step, first_later, value_there, value_most, value_past_all, words_after, words_before}
use Rattle.strip.specs.AskLaws.{greatest_most}
use Rattle.strip.specs.declared.Strip.{Strip}
use Rattle.strip.specs.declared.raising.Raise.{Raise}
use Rattle.strip.specs.declared.walking.Walk.{Walk}

-- all nothing
pub all_nothing : stand_for (λ d. 0) ≡ segment day_limit 0 ∷ []
unfolding parting in_front
all_nothing =
    parting_piece (λ d. 0) 0 day_limit 0 day_limit 0 all_days (omega arith) (omega arith) (λ e u v. refl)
    ∙ ap (λ t. in_front t (segment day_limit 0) []) (ends_last (λ d. 0) day_limit)

pub clear_refused : (words : List ℕ) (s : Strip) → (length words ≡ 1_024 → ⊥) → refused 4 (lent words s) ≡ cleared (lent words s)
unfolding cleared
clear_refused words s h = rw (ne_eqb (length words) most_segments h) refl

pub clear_made : (words : List ℕ) (s : Strip) (w : ℕ) → length words ≡ 1_024 → w ≡ segment day_limit 0 → record { refusal = 0; strip = record { words = set words 0 w; count = 1 } } ≡ cleared (lent words s)
unfolding cleared holding_new
clear_made [] s w h e = absurd (none h)
  where
    none : length {A = ℕ} [] ≡ 1_024 → ⊥
    none h = omega arith
clear_made (x ∷ words) s w h e = rw (eq-eqb (length (x ∷ words)) most_segments h, all_nothing, e) refl

-- the value on which a segment begins
pub value_end : (words : List ℕ) (i : ℕ) → parts 0 no_value words ≡ true → i ≡ length words → 0 ≡ value_on words (first_day words i)
value_end words i good e = rw e (sym (value_past_all words good))

pub value_begins : (words : List ℕ) (i r : ℕ) → parts 0 no_value words ≡ true → i < length words → r ≡ value_of (get_or words i 0) → r ≡ value_on words (first_day words i)
value_begins words i r good q e = e ∙ sym (value_there words good i (first_day words i) q (omega arith) (first_step words good i q))

-- before the record's days and after them the meaning stays
module _ (r : Raise) where
  pub stays_before : (d : ℕ) → d < r.days.low → after r d ≡ value_on (words_of r) d
  unfolding raised
  stays_before d h = rw (fails (holds r.days d) (λ e. let k = holding r.days d e in omega (arith, k.from))) refl

  pub stays_after : (d : ℕ) → r.days.high < d → after r d ≡ value_on (words_of r) d
  unfolding raised
  stays_after d h = rw (fails (holds r.days d) (λ e. let k = holding r.days d e in omega (arith, k.to))) refl

-- the walk begins past the segment that has the day after the record's last, or the last day
module _ (r : Raise) (made : List ℕ) (long : length made ≡ 1_026) (i : ℕ) (f : Found (words_of r) (min (r.days.high + 1) day_limit) i) (p : r.start ≤ i) where
  past : r.days.high < first_day (words_of r) (suc i)
  past = omega (arith, first_next (words_of r) i, f.to, r.lawful)

  pub walk_begins : (place days next : ℕ) → place ≡ 1_026 - (length (words_of r) - suc i) → days ≡ first_day (words_of r) (suc i) → next ≡ value_on (words_of r) (first_day (words_of r) (suc i))
      → Walked r (take place made ++ drop (suc i) (words_of r)) (record { segments = suc i; days = days; place = place; next = next })
  walk_begins place days next ep ed en =
      let words = words_of r in
      let first = first_day words (suc i) in
      let k = past in
      let z : r.start + (suc i - r.start) ≡ suc i = omega arith in
      let one = first_step words r.segments.good i f.inside in
      let next_first = first_next words i in
      let later = rw z at (first_later words r.segments.good r.start (suc i - r.start) (omega (arith, f.inside))) in
      let few = r.segments.few in
      let inside = f.inside in
      rw ed
      (record {
        most = f.inside;
        least = omega arith;
        from = omega arith;
        to = omega arith;
        inside = λ u. let y : suc i - 1 ≡ i = omega arith in rw y (omega arith);
        done =
            drop_at (take place made) (drop (suc i) words) place (length-take-le place made (omega arith))
            ∙ words_after words r.segments.good (after r) (suc i) f.inside (λ d u. stays_after r d (omega arith));
        follows = en ∙ sym (stays_after r first k);
        room = omega arith;
        room_low = λ u. omega arith;
        room_high = λ u. omega arith;
        end = omega arith;
        long = omega (arith, length-append (take place made) (drop (suc i) words), length-take place made, length-drop (suc i) words);
      })

pub walk_begun : (r : Raise) (made : List ℕ) → length made ≡ 1_026 → (i : ℕ) → Found (words_of r) (min (r.days.high + 1) day_limit) i → r.start ≤ i
    → (place k days next : ℕ) (new : List ℕ) → place ≡ 1_026 - (length (words_of r) - (i + 1)) → k ≡ length made - place → new ≡ drop (i + 1) (words_of r)
    → days ≡ first_day (words_of r) (i + 1) → next ≡ value_on (words_of r) (first_day (words_of r) (i + 1))
    → Walked r (put_mid place k made new) (record { segments = i + 1; days = days; place = place; next = next })
walk_begun r made long i f p place k days next new ep ek en ed ev =
    let z = add-one i in
    let few = r.segments.few in
    let none : drop k (drop place made) ≡ [] = drop_of_length-le (drop place made) (omega (arith, length-drop place made)) in
    let whole : put_mid place k made new ≡ take place made ++ drop (suc i) (words_of r) = rw (none, append-nil, en, z) refl in
    rw (whole, z) (walk_begins r made long i f p place days next (rw z at ep) (rw z at ed) (rw z at ev))

-- The walk ends where the strip is untouched: what stands before and what was made are the result.
pub walk_ends : (r : Raise) (made : List ℕ) (at : Walk) → Walked r made at → at.segments ≤ r.start → take r.start (words_of r) ++ drop at.place made ≡ stand_for (after r)
walk_ends r made at h p =
    let words = words_of r in
    let e : at.segments ≡ r.start = omega (arith, h.least) in
    let days : at.days ≡ first_day words r.start = omega (arith, h.from, rw e at h.to) in
    let done = rw days at h.done in
    ap (λ l. take r.start words ++ l) done
    ∙ sym (words_before words r.segments.good (after r) r.start (omega (arith, r.begins.inside)) (λ d u v. stays_before r d (start_later d u v)))
  where
    start_later : (d : ℕ) → 0 < r.start → d ≤ first_day (words_of r) r.start → d < r.days.low
    start_later d u v =
        let few = first_later (words_of r) r.segments.good 0 r.start (omega (arith, r.begins.inside)) in
        let z : 0 + r.start ≡ r.start = omega arith in
        let some = rw z at few in
        omega (arith, r.begins.from)

-- settling
module _ (words made : List ℕ) (start : ℕ) (s : Strip) (room : length words ≡ 1_024) (few : start ≤ 1_024) where
  new_length : length (take start words ++ made) ≡ start + length made
  new_length = omega (arith, length-append (take start words) made, length-take start words)

  pub settle_refused : 1_024 < start + length made → refused 10 (lent words s) ≡ fitted (take start words ++ made) (lent words s)
  unfolding fitted
  settle_refused h = rw (lt-leb (length (take start words ++ made)) most_segments (omega (arith, new_length))) refl

  pub settle_kept : (k : ℕ) (new : List ℕ) → k ≡ length made → new ≡ made → start + length made ≤ 1_024
      → record { refusal = 0; strip = record { words = put_mid start k words new; count = start + length made } } ≡ fitted (take start words ++ made) (lent words s)
  unfolding fitted holding_new
  settle_kept k new e f h =
      let size = new_length in
      rw (le-leb (length (take start words ++ made)) most_segments (omega arith), size, e, f)
      (ap (λ w. record { refusal = 0; strip = record { words = w; count = start + length made } }) (simp (append_assoc, drop-drop)))

-- the check of a strip: what is passed of all the words in use is the whole test
pub passed_strip : (s : Lent) (good : Bool) (first before i : ℕ) → length s.words ≡ most_segments → s.count ≤ most_segments → Passed (segments s) good first before i → i ≤ s.count → s.count ≤ i
    → good && eqb first all_days ≡ is_strip s
passed_strip s good first before i room most h p q =
    let n = length-take-le s.count s.words (omega arith) in
    passed_all (segments s) good first before i all_days h (omega arith) (omega arith) refl ∙ strip_parts s room most

-- which refusal the calls give after their tests, and that there is none
module _ (s : Lent) (days : Range) (t : Bool) (e : t ≡ legal_on day_limit days) where
  pub record_2 : (gust : ℕ) → not t ≡ true → refused 2 s ≡ recorded s days gust
  unfolding recorded
  record_2 gust h = rw (sym e ∙ not-true t h) refl

  pub ask_2 : not t ≡ true → Err no.Box ≡ asked s days
  unfolding asked
  ask_2 h = rw (sym e ∙ not-true t h) refl

  module _ (h : not t ≡ false) (u : Bool) (f : u ≡ is_strip s) where
    pub ask_4 : not u ≡ true → Err no.Damaged ≡ asked s days
    unfolding asked
    ask_4 k = rw (sym e ∙ not-false t h, sym f ∙ not-true u k) refl

    pub ask_answers : (value : ℕ) (a : Option ℕ) → not u ≡ false → value ≡ greatest_on (meaning s) days.low (suc days.high - days.low) → a ≡ answer_of value → Ok a ≡ asked s days
    unfolding asked greatest_in
    ask_answers value a k v b = rw (sym e ∙ not-false t h, sym f ∙ not-false u k, b, v) refl

  module _ (h : not t ≡ false) (gust : ℕ) (p : Bool) (g : p ≡ leb gust gust_limit) where
    pub record_3 : not p ≡ true → refused 3 s ≡ recorded s days gust
    unfolding recorded
    record_3 k = rw (sym e ∙ not-false t h, sym g ∙ not-true p k) refl

    module _ (q : not p ≡ false) (u : Bool) (f : u ≡ is_strip s) where
      pub record_4 : not u ≡ true → refused 4 s ≡ recorded s days gust
      unfolding recorded
      record_4 k = rw (sym e ∙ not-false t h, sym g ∙ not-false p q, sym f ∙ not-true u k) refl

      pub record_fits : (l : Left) → not u ≡ false → l ≡ fitted (with_record s days gust) s → l ≡ recorded s days gust
      unfolding recorded
      record_fits l k a = rw (sym e ∙ not-false t h, sym g ∙ not-false p q, sym f ∙ not-false u k) a

-- an answer is a value that a day may have
pub answer_small : (s : Lent) (value : ℕ) (days : Range) → Known s → value ≡ greatest_on (meaning s) days.low (suc days.high - days.low) → value ≤ greatest_value
answer_small s value days known e = omega (arith, greatest_most (meaning s) days.low (suc days.high - days.low) (value_most (segments s) known.good))
