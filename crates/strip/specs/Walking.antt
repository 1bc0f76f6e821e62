-- How the code goes: through the words in use, to the segment that has a day, and down over the segments that a record touches.
use Rattle.std.specs.Prelude.{ℕ, suc, ◌+◌, ◌-◌, ◌≤◌, ◌<◌, max, Bool, cond, not, ◌&&◌, List, ◌≡◌, leb, ltb, eqb, length, drop}
use Rattle.ground.specs.Boxes.{holds}
use Rattle.ground.specs.declared.boxes.Range.{Range}
use Rattle.strip.specs.Strips.{all_days, greatest_value, value_on, in_front, parting, raised}
use Rattle.strip.specs.Places.{first_day}
use Rattle.strip.specs.declared.raising.Raise.{Raise}
use Rattle.strip.specs.declared.walking.Walk.{Walk}

-- a segment with this last day and value may follow one that ended just before this first day and had the value before
abbrev pub may_follow : ℕ → ℕ → ℕ → ℕ → Bool
may_follow first before last value = leb first last && (leb value greatest_value && not (eqb value before))

-- a word put in front of those from a place on, if it stands
pub record Fronted (made made' : List ℕ) (place : ℕ) (stands : Bool) (w r : ℕ) : Type 0 where
  pub most : r ≤ place
  pub least : place ≤ r + 1
  pub words : drop r made' ≡ in_front stands w (drop place made)
  pub long : length made' ≡ length made

-- The piece that ends on a day reaches down to where the record's days end or begin, or to where its segment begins.
abbrev pub piece_first : ℕ → ℕ → Range → ℕ
piece_first first last days = cond (ltb days.high last) (max first (days.high + 1)) (cond (leb days.low last) (max first days.low) first)

abbrev pub piece_value : ℕ → ℕ → Range → ℕ → ℕ
piece_value last value days raise = cond (holds days last) (max value raise) value

-- The segments that a record is made on, and the meaning that it leaves.
abbrev pub words_of : Raise → List ℕ
words_of r = r.segments.words.now

abbrev pub after : Raise → ℕ → ℕ
after r = raised r.days r.value (value_on (words_of r))

-- What holds while the walk goes down: the words made are the parting of the days that are done, and there is room for the rest: a word for each segment and each end of the record's days.
pub record Walked (r : Raise) (made : List ℕ) (at : Walk) : Type 0 where
  pub most : at.segments ≤ length (words_of r)
  pub least : r.start ≤ at.segments
  pub from : first_day (words_of r) r.start ≤ at.days
  pub to : at.days ≤ first_day (words_of r) at.segments
  pub inside : r.start < at.segments → first_day (words_of r) (at.segments - 1) < at.days
  pub done : drop at.place made ≡ parting (after r) at.days (all_days - at.days)
  pub follows : at.next ≡ after r at.days
  pub room : at.segments ≤ at.place
  pub room_low : r.days.low < at.days → at.segments + 1 ≤ at.place
  pub room_high : suc r.days.high < at.days → at.segments + 2 ≤ at.place
  pub end : at.place ≤ 1_026
  pub long : length made ≡ 1_026
