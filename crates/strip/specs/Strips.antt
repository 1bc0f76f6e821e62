-- A strip: segments that part all days from 0 to the last, each with a gust or nothing, neighbours unlike.
-- A day's value is 0 for nothing and v + 1 for gust v, so that nothing is below calm.
use Rattle.std.specs.Prelude.{ℕ, zero, suc, ◌+◌, ◌*◌, ◌/◌, ◌%◌, max, Bool, true, false, cond, not, ◌&&◌, ◌||◌, List, [], ◌∷◌, leb, eqb}
use Rattle.ground.specs.Boxes.{day_limit, gust_limit, holds}
use Rattle.ground.specs.declared.boxes.Range.{Range}

-- How many days there are, from 0 to the last; the greatest value; and one that no day has.
abbrev pub all_days : ℕ
all_days = suc day_limit

abbrev pub greatest_value : ℕ
greatest_value = gust_limit + 1

abbrev pub no_value : ℕ
no_value = greatest_value + 1

-- Rule 13.3: a segment is one word of 32 bits: its last day in the high half, its value in the low half. Its first day follows the last day of the segment before.
abbrev pub half : ℕ
half = 65_536

abbrev pub segment : ℕ → ℕ → ℕ
segment last value = last * half + value

abbrev pub last_of : ℕ → ℕ
last_of w = w / half

abbrev pub value_of : ℕ → ℕ
value_of w = w % half

-- Rule 13.4, what segments mean: to each day the value of the first segment that does not end before it, and nothing past them all.
unfoldable pub value_on : List ℕ → ℕ → ℕ
value_on [] d = 0
value_on (w ∷ s) d = cond (leb d (last_of w)) (value_of w) (value_on s d)

-- Rules 13.1 and 13.2: segments part the days from a first one on: each has a day or more and a value unlike the one before it, and the last of them ends on the last day.
unfoldable pub parts : ℕ → ℕ → List ℕ → Bool
parts first before [] = eqb first all_days
parts first before (w ∷ s) = leb first (last_of w) && (leb (value_of w) greatest_value && not (eqb (value_of w) before)) && parts (suc (last_of w)) (value_of w) s

-- Rule 13.4, the one list of segments that stands for a meaning, over n days from day d on: a segment ends on the last of them, and on each day whose next day is unlike.
unfoldable pub ends_on : (ℕ → ℕ) → ℕ → ℕ → Bool
ends_on f d left = eqb left 0 || not (eqb (f d) (f (suc d)))

unfoldable pub in_front : Bool → ℕ → List ℕ → List ℕ
in_front true w s = w ∷ s
in_front false w s = s

unfoldable pub parting : (ℕ → ℕ) → ℕ → ℕ → List ℕ
parting f d zero = []
parting f d (suc n) = in_front (ends_on f d n) (segment d (f d)) (parting f (suc d) n)

-- Rule 13.6: a record raises each of its days to the greater gust.
unfoldable pub raised : Range → ℕ → (ℕ → ℕ) → ℕ → ℕ
raised days value f d = cond (holds days d) (max (f d) value) (f d)

-- Rule 13.7, the greatest value of n days from day d on: nothing exactly if no day of them has a gust.
unfoldable pub greatest_on : (ℕ → ℕ) → ℕ → ℕ → ℕ
greatest_on f d zero = 0
greatest_on f d (suc n) = max (f d) (greatest_on f (suc d) n)
