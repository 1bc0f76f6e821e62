-- RULES.md, section 7: the call that records, and its refusals.
use Rattle.std.specs.Prelude.{ℕ, ◌+◌, Bool, true, false, not, List, ltb, eqb}
use Rattle.ground.specs.Boxes.{legal, gust_passes}
use Rattle.ground.specs.declared.boxes.Box.{Box}
use Rattle.pages.specs.Free.{free_count}
use Rattle.pages.specs.Layout.{table_fits, pages_of, table_of}
use Rattle.pages.specs.declared.Small.{Small}
use Rattle.wellformed.specs.WellFormed.{well_formed, most_accepted}
use Rattle.rules.specs.Recording.{Answer, Recorded, recorded}

pub data Reply : Type 0 where
  Refused : ℕ → Reply
  Answered : Answer → Reply

-- What a call leaves behind: its reply, the table and the small record.
pub record Called : Type 0 where
  pub reply : Reply
  pub table : List ℕ
  pub small : Small

-- Rule 7.31: the first refusal that applies is given.
abbrev pub first_of : Bool → ℕ → ℕ → ℕ
first_of true n later = n
first_of false n later = later

-- Rules 7.21, 7.4, 7.5, 7.6: the number of the refusal of a record, 0 for none: TABLE, BOX, GUST, DAMAGED, SPENT, FULL.
unfoldable pub refusal : List ℕ → Small → Box → ℕ → ℕ
refusal t s b v =
    first_of (not (table_fits t)) 1
    (first_of (not (legal b)) 2
    (first_of (not (gust_passes (record { tenths = v }))) 3
    (first_of (not (well_formed t s)) 4
    (first_of (eqb s.accepted most_accepted) 5
    (first_of (ltb (free_count (pages_of t)) (s.height + 1)) 6
    0)))))

abbrev pub answered : Recorded → Called
answered r = record { reply = Answered r.answer; table = table_of r.pages; small = r.small }

-- Rule 7.32: a refusal leaves table and small record unchanged.
abbrev pub refused : ℕ → List ℕ → Small → Called
refused n t s = record { reply = Refused n; table = t; small = s }

abbrev pub record_by : Bool → List ℕ → Small → Box → ℕ → Called
record_by true t s b v = answered (recorded (pages_of t) s b v)
record_by false t s b v = refused (refusal t s b v) t s

-- The call.
unfoldable pub record_into : List ℕ → Small → Box → ℕ → Called
record_into t s b v = record_by (eqb (refusal t s b v) 0) t s b v
