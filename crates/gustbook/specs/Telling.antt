-- The calls in the code's order: the small record and the box read, the book's own call, the answer written.
use Rattle.std.specs.Prelude.{Result, Ok, Err, ℕ, List, ◌≡◌, refl}
use Rattle.std.proofs.Common.{sym, ap, ap₂, ◌∙◌}
use Rattle.asking.specs.Asking.{asked}
use Rattle.asking.specs.declared.Asked.{Asked}
use Rattle.ground.specs.declared.boxes.Box.{Box}
use Rattle.index.specs.Calls.{Left, Saved, count_answer, count_says, counted, saved}
use Rattle.index.specs.CallLaws.{left_of, count_is}
use Rattle.index.specs.declared.Counts.{Counts}
use Rattle.ground.specs.Refusals.{number_of, numbered}
use Rattle.ground.specs.declared.refusals.Refusal.{Refusal}
use Rattle.wide.specs.Wide.{narrow, narrowed}
use Rattle.pages.specs.declared.Small.{Small}
use Rattle.recording.specs.CallSteps.{reply_of, called_of}
use Rattle.recording.specs.declared.Recorded as code-recorded
use Rattle.rules.specs.Record.{record_into}
use Rattle.gustbook.specs.Boundary.{small_of, numbers_of, wide_of, box_of, left_in_numbers, Told, told_in, told_by, recorded_numbers, record_told, record_leaves, ask_told, count_told}
use Rattle.index.specs.WideCalls.{record_wide, ask_wide}

-- the call as a whole
pub left_told : (u w : List ℕ) (s : Small) (e : Result Unit Refusal) (n : ℕ) (l : Left) → left_of u s e ≡ l → w ≡ numbers_of s → n ≡ number_of e → record { refusal = n; table = u; small = w } ≡ left_in_numbers l
left_told u w s e n l h f g = ap₂ (λ m x. record { refusal = m; table = u; small = x }) g f ∙ ap left_in_numbers h

-- what a call tells whose refusal is told by its number
pub told_so : {T : Type 0} (numbers : T → List ℕ) (said : Result T Refusal) (x : Result T ℕ) (lent : List ℕ) (y : Told) → x ≡ numbered said → y ≡ told_in numbers x lent → y ≡ told_by numbers said lent
told_so numbers said x lent y e h = h ∙ ap (λ a. told_in numbers a lent) e

-- what a record tells, by the rules' reply
recorded_told : (r : Result code-recorded.Recorded Refusal) (lent : List ℕ) → told_by recorded_numbers r lent ≡ record_told (reply_of r) lent
recorded_told (Ok r) lent = refl
recorded_told (Err refusal) lent = refl

pub record_told_lem : (t u w five six lent answer : List ℕ) (s q : Small) (b : Box) (v n r : ℕ) (c : Result code-recorded.Recorded Refusal) → s ≡ small_of five → b ≡ narrowed (wide_of six) → n ≡ narrow v
    → called_of u q c ≡ record_into t s b n → w ≡ numbers_of q → record { refusal = r; answer = answer } ≡ told_by recorded_numbers c lent
    → record { told = record { refusal = r; answer = answer }; table = u; small = w } ≡ record_leaves (record_into t (small_of five) (box_of six) v) lent
record_told_lem t u w five six lent answer s q b v n r c hs hb hv h f g =
    let e : called_of u q c ≡ record_into t (small_of five) (box_of six) v =
    h ∙ ap (λ x. record_into t x b n) hs ∙ ap₂ (record_into t (small_of five)) hb hv ∙ record_wide t (small_of five) (wide_of six) v in
    ap₂ (λ x y. record { told = x; table = u; small = y }) (g ∙ recorded_told c lent) f ∙ ap (λ x. record_leaves x lent) e

pub ask_told_lem : (t five six lent : List ℕ) (s : Small) (q : Box) (x : Result Asked Refusal) (y : Told) → s ≡ small_of five → q ≡ narrowed (wide_of six) → x ≡ asked t s q
    → y ≡ ask_told x lent → y ≡ ask_told (asked t (small_of five) (box_of six)) lent
ask_told_lem t five six lent s q x y hs hq hx h = h ∙ ap (λ a. ask_told a lent) (hx ∙ ap₂ (asked t) hs hq ∙ ask_wide t (small_of five) (wide_of six))

pub count_told_lem : (t five lent : List ℕ) (s : Small) (x : Result Counts Refusal) (y : Told) → s ≡ small_of five → count_says x ≡ count_answer t s → y ≡ count_told x lent → y ≡ count_told (counted t (small_of five)) lent
count_told_lem t five lent s x y hs hx h = h ∙ ap (λ a. count_told a lent) (count_is t s x hx ∙ ap (counted t) hs)

pub save_told : (t five out : List ℕ) (s : Small) (y : Saved) → s ≡ small_of five → y ≡ saved t s out → y ≡ saved t (small_of five) out
save_told t five out s y hs h = h ∙ ap (λ x. saved t x out) hs
