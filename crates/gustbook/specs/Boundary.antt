-- The calls for C and Rust, in numbers. A call returns 0 or the refusal's number; its answer goes to numbers that the caller lends, which a refusal leaves alone.
use Rattle.std.specs.Prelude.{Option, Some, None, Result, Ok, Err, ℕ, List, [], ◌∷◌, get_or}
use Rattle.asking.specs.declared.Asked.{Asked}
use Rattle.ground.specs.Refusals.{numbered}
use Rattle.ground.specs.declared.refusals.Refusal.{Refusal}
use Rattle.ground.specs.declared.boxes.Box.{Box}
use Rattle.index.specs.Calls.{Left}
use Rattle.index.specs.declared.Counts.{Counts}
use Rattle.recording.specs.RecordSteps.{outcome_is}
use Rattle.recording.specs.declared.Recorded as code-recorded
use Rattle.wide.specs.Wide.{as_given}
use Rattle.wide.specs.declared.WideBox.{WideBox}
use Rattle.pages.specs.declared.Small.{Small}
use Rattle.rules.specs.Record.{Reply, Reply.Refused, Reply.Answered, Called}
use Rattle.rules.specs.Recording.{Outcome, Outcome.Kept, Outcome.Cut, Outcome.Covered}

-- Rule 2.4: the small record is five numbers: root, height, accepted, struck, covered.
abbrev pub small_of : List ℕ → Small
small_of w = record { root = get_or w 0 0; height = get_or w 1 0; accepted = get_or w 2 0; struck = get_or w 3 0; covered = get_or w 4 0 }

abbrev pub numbers_of : Small → List ℕ
numbers_of s = s.root ∷ s.height ∷ s.accepted ∷ s.struck ∷ s.covered ∷ []

-- Rule 2.15: a box is six numbers, as great as they are: east low, east high, north low, north high, day low, day high.
abbrev pub wide_of : List ℕ → WideBox
wide_of w =
    record {
      east = record { low = get_or w 0 0; high = get_or w 1 0 };
      north = record { low = get_or w 2 0; high = get_or w 3 0 };
      day = record { low = get_or w 4 0; high = get_or w 5 0 };
    }

abbrev pub box_of : List ℕ → Box
box_of w = as_given (wide_of w)

-- What clearing and loading leave: the number returned, the table, and the small record's five numbers.
pub record LeftInNumbers : Type 0 where
  pub refusal : ℕ
  pub table : List ℕ
  pub small : List ℕ

abbrev pub left_in_numbers : Left → LeftInNumbers
left_in_numbers l = record { refusal = l.refusal; table = l.table; small = numbers_of l.small }

-- The number returned, and the answer's numbers.
pub record Told : Type 0 where
  pub refusal : ℕ
  pub answer : List ℕ

-- Rules 7.31, 7.32: a refusal returns its number, and leaves the answer's numbers as they were lent.
abbrev pub told_in : {T : Type 0} → (T → List ℕ) → Result T ℕ → List ℕ → Told
told_in numbers (Err number) lent = record { refusal = number; answer = lent }
told_in numbers (Ok answer) lent = record { refusal = 0; answer = numbers answer }

abbrev pub told_by : {T : Type 0} → (T → List ℕ) → Result T Refusal → List ℕ → Told
told_by numbers said = told_in numbers (numbered said)

-- Rules 4.81, 4.82: recording: 0 kept, 1 cut, 2 covered; then the struck count.
abbrev pub outcome_number : Outcome → ℕ
outcome_number Kept = 0
outcome_number Cut = 1
outcome_number Covered = 2

abbrev pub recorded_numbers : code-recorded.Recorded → List ℕ
recorded_numbers r = outcome_number (outcome_is r.outcome) ∷ r.struck ∷ []

abbrev pub record_told : Reply → List ℕ → Told
record_told (Refused number) lent = record { refusal = number; answer = lent }
record_told (Answered a) lent = record { refusal = 0; answer = outcome_number a.outcome ∷ a.struck ∷ [] }

pub record Recorded : Type 0 where
  pub told : Told
  pub table : List ℕ
  pub small : List ℕ

abbrev pub record_leaves : Called → List ℕ → Recorded
record_leaves c lent = record { told = record_told c.reply lent; table = c.table; small = numbers_of c.small }

-- Rule 5.13: asking: 1 and the gust, or 0 and 0 for nothing; then the pages opened.
abbrev pub gust_numbers : Option ℕ → ℕ → List ℕ
gust_numbers None pages = 0 ∷ 0 ∷ pages ∷ []
gust_numbers (Some gust) pages = 1 ∷ gust ∷ pages ∷ []

abbrev pub asked_numbers : Asked → List ℕ
asked_numbers a = gust_numbers a.gust a.pages

abbrev pub ask_told : Result Asked Refusal → List ℕ → Told
ask_told = told_by asked_numbers

-- Rule 1.4: counting: accepted, held, struck, covered.
abbrev pub counts_numbers : Counts → List ℕ
counts_numbers n = n.accepted ∷ n.held ∷ n.struck ∷ n.covered ∷ []

abbrev pub count_told : Result Counts Refusal → List ℕ → Told
count_told = told_by counts_numbers
