-- The calls on a strip, and when each says no. A strip is lent as 1,024 words, and the count of those in use.
use Rattle.std.specs.Prelude.{ℕ, zero, suc, ◌+◌, ◌-◌, Bool, cond, not, ◌&&◌, List, ◌++◌, Option, Some, None, Result, Ok, Err, leb, eqb, length, take, drop}
use Rattle.ground.specs.Boxes.{day_limit, gust_limit, legal_on}
use Rattle.ground.specs.declared.boxes.Range.{Range}
use Rattle.ground.specs.declared.refusals.Refusal.{Refusal}
use Rattle.ground.specs.declared.refusals.Refusal.TheVariants as no
use Rattle.ground.specs.Refusals.{number_of}
use Rattle.strip.specs.declared.Strip.{Strip}
use Rattle.strip.specs.Strips.{all_days, no_value, value_on, parts, parting, raised, greatest_on}

-- Rule 13.1: the most segments of a strip.
abbrev pub most_segments : ℕ
most_segments = 1_024

-- Rule 13.3: the lent words and the count.
pub record Lent : Type 0 where
  pub words : List ℕ
  pub count : ℕ

abbrev pub segments : Lent → List ℕ
segments s = take s.count s.words

abbrev pub meaning : Lent → ℕ → ℕ
meaning s = value_on (segments s)

-- Rule 13.9, refusal 4: 1,024 words are lent, and those in use are a strip.
unfoldable pub is_strip : Lent → Bool
is_strip s = (eqb (length s.words) most_segments && leb s.count most_segments) && parts 0 no_value (segments s)

-- The segments that stand for a meaning of all days.
abbrev pub stand_for : (ℕ → ℕ) → List ℕ
stand_for f = parting f 0 all_days

-- Rule 13.8, new segments in the strip's first words; the words after them stay as they were.
unfoldable pub holding : List ℕ → Lent → Lent
holding new s = record { words = new ++ drop (length new) s.words; count = length new }

-- What a call leaves: 0 or the refusal's number, and the strip.
pub record Left : Type 0 where
  pub refusal : ℕ
  pub strip : Lent

abbrev pub refused : ℕ → Lent → Left
refused number s = record { refusal = number; strip = s }

-- Rules 13.5 and 7.28: clearing makes the strip that is all nothing.
unfoldable pub cleared : Lent → Left
cleared s = cond (eqb (length s.words) most_segments) (record { refusal = 0; strip = holding (stand_for (λ d. 0)) s }) (refused 4 s)

-- Recording days and a gust: the segments that stand for the meaning with each of these days raised.
unfoldable pub with_record : Lent → Range → ℕ → List ℕ
with_record s days gust = stand_for (raised days (gust + 1) (meaning s))

-- Rule 7.10: refusal 10 exactly when the result would have more than 1,024 segments.
unfoldable pub fitted : List ℕ → Lent → Left
fitted new s = cond (leb (length new) most_segments) (record { refusal = 0; strip = holding new s }) (refused 10 s)

-- Rules 7.28 and 7.32: 2, 3, 4, 10 in this order; a refusal leaves the strip as it was.
unfoldable pub recorded : Lent → Range → ℕ → Left
recorded s days gust =
    cond (not (legal_on day_limit days)) (refused 2 s)
    (cond (not (leb gust gust_limit)) (refused 3 s)
    (cond (not (is_strip s)) (refused 4 s)
    (fitted (with_record s days gust) s)))

-- Rules 13.7 and 7.28, asking a range of days: 2, then 4; the answer is the greatest of its days, or nothing.
unfoldable pub greatest_in : Lent → Range → ℕ
greatest_in s days = greatest_on (meaning s) days.low (suc days.high - days.low)

unfoldable pub answer_of : ℕ → Option ℕ
answer_of zero = None
answer_of (suc v) = Some v

unfoldable pub asked : Lent → Range → Result (Option ℕ) Refusal
asked s days = cond (not (legal_on day_limit days)) (Err no.Box) (cond (not (is_strip s)) (Err no.Damaged) (Ok (answer_of (greatest_in s days))))

-- A strip as the code has it: the words it is lent, and the count.
abbrev pub lent : List ℕ → Strip → Lent
lent words strip = record { words = words; count = strip.count }

-- What a call left of them, and what it returned.
abbrev pub left_of : {T : Type 0} → List ℕ → Strip → Result T Refusal → Left
left_of words strip result = record { refusal = number_of result; strip = lent words strip }
