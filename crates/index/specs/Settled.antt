-- Each call's promise settles its answer and every word or byte afterwards: two results that it allows are equal.
use Rattle.std.specs.Prelude.{Result, Ok, Err, ℕ, List, ◌≡◌, refl}
use Rattle.std.proofs.Common.{sym, ap, ◌∙◌, arith}
use Rattle.asking.specs.Asking.{asked}
use Rattle.asking.specs.declared.Asked.{Asked}
use Rattle.ground.specs.declared.boxes.Box.{Box}
use Rattle.pages.specs.declared.Small.{Small}
use Rattle.recording.specs.CallSteps.{called_of, reply_of}
use Rattle.rules.specs.Record.{Reply, Reply.Refused, Reply.Answered, record_into}
use Rattle.rules.specs.Recording.{Answer}
use Rattle.ground.specs.Refusals.{number, number_of, number_tells, number_settles}
use Rattle.ground.specs.declared.refusals.Refusal.{Refusal}
use Rattle.recording.specs.declared.Recorded as code-recorded
use Rattle.recording.specs.declared.Outcome as code-outcome
use Rattle.recording.specs.declared.Outcome.TheVariants as case
use Rattle.recording.specs.RecordSteps.{outcome_is}
use Rattle.index.specs.declared.Counts.{Counts}
use Rattle.index.specs.Calls.{Left, Saved, cleared, count_answer, count_says, saved, loaded}
use Rattle.index.specs.CallLaws.{left_of, count_is}

-- the answer, the table and the small record
same_left : (u w : List ℕ) (r q : Small) (a b : Result Unit Refusal) (x : Left) → left_of u r a ≡ x → left_of w q b ≡ x → (u ≡ w) × (r ≡ q) × (a ≡ b)
same_left u w r q a b x e f =
    let g = e ∙ sym f in
    (ap (λ (y : Left). y.table) g, ap (λ (y : Left). y.small) g, number_settles a b (ap (λ (y : Left). y.refusal) g))

-- Rule 11.1.
pub clear_settled : (t u w : List ℕ) (s r q : Small) (a b : Result Unit Refusal) → left_of u r a ≡ cleared t s → left_of w q b ≡ cleared t s → (u ≡ w) × (r ≡ q) × (a ≡ b)
clear_settled t u w s r q a b = same_left u w r q a b (cleared t s)

-- Rule 11.1.
pub load_settled : (image t u w : List ℕ) (s r q : Small) (a b : Result Unit Refusal) → left_of u r a ≡ loaded image t s → left_of w q b ≡ loaded image t s → (u ≡ w) × (r ≡ q) × (a ≡ b)
load_settled image t u w s r q a b = same_left u w r q a b (loaded image t s)

-- Rule 11.1: the answer and the buffer
pub save_settled : (t out u w : List ℕ) (s : Small) (a b : Result Unit Refusal) → record { refusal = number_of a; buffer = u } ≡ saved t s out → record { refusal = number_of b; buffer = w } ≡ saved t s out → (a ≡ b) × (u ≡ w)
save_settled t out u w s a b e f = let g = e ∙ sym f in (number_settles a b (ap (λ (y : Saved). y.refusal) g), ap (λ (y : Saved). y.buffer) g)

-- Rule 11.1.
pub count_settled : (t : List ℕ) (s : Small) (a b : Result Counts Refusal) → count_says a ≡ count_answer t s → count_says b ≡ count_answer t s → a ≡ b
count_settled t s a b e f = count_is t s a e ∙ sym (count_is t s b f)

-- Rule 11.1.
pub ask_settled : (t : List ℕ) (s : Small) (q : Box) (a b : Result Asked Refusal) → a ≡ asked t s q → b ≡ asked t s q → a ≡ b
ask_settled t s q a b e f = e ∙ sym f

-- each case of the answer to a record has its own number and values
same_outcome : (o p : code-outcome.Outcome) → outcome_is o ≡ outcome_is p → o ≡ p
same_outcome case.Kept case.Kept e = refl
same_outcome case.Cut case.Cut e = refl
same_outcome case.Covered case.Covered e = refl
same_outcome case.Kept case.Cut e = let z : ◌≡◌ {A = ℕ} 0 1 = cc in absurd (omega arith)
same_outcome case.Kept case.Covered e = let z : ◌≡◌ {A = ℕ} 0 1 = cc in absurd (omega arith)
same_outcome case.Cut case.Kept e = let z : ◌≡◌ {A = ℕ} 0 1 = cc in absurd (omega arith)
same_outcome case.Cut case.Covered e = let z : ◌≡◌ {A = ℕ} 0 1 = cc in absurd (omega arith)
same_outcome case.Covered case.Kept e = let z : ◌≡◌ {A = ℕ} 0 1 = cc in absurd (omega arith)
same_outcome case.Covered case.Cut e = let z : ◌≡◌ {A = ℕ} 0 1 = cc in absurd (omega arith)

answer_or : Answer → Reply → Answer
answer_or a (Refused n) = a
answer_or a (Answered b) = b

same_reply : (a b : Result code-recorded.Recorded Refusal) → reply_of a ≡ reply_of b → a ≡ b
unfolding answer_or
same_reply (Err m) (Err n) e = let h : number m ≡ number n = cc in ap Err (number_tells m n h)
same_reply (Ok x) (Ok y) e =
    let h = ap (answer_or (record { outcome = outcome_is x.outcome; struck = x.struck })) e in
    let l = ap (λ a. a.struck) h in
    let g = same_outcome x.outcome y.outcome (ap (λ a. a.outcome) h) in
    λ i. Ok (record { outcome = g i; struck = l i })
same_reply (Err m) (Ok y) e = let z : ◌≡◌ {A = ℕ} 0 1 = cc in absurd (omega arith)
same_reply (Ok x) (Err n) e = let z : ◌≡◌ {A = ℕ} 0 1 = cc in absurd (omega arith)

-- Rule 11.1.
pub record_settled : (t u w : List ℕ) (s r q : Small) (b : Box) (v : ℕ) (x y : Result code-recorded.Recorded Refusal) → called_of u r x ≡ record_into t s b v → called_of w q y ≡ record_into t s b v → (u ≡ w) × (r ≡ q) × (x ≡ y)
record_settled t u w s r q b v x y e f =
    let g = e ∙ sym f in
    (ap (λ c. c.table) g, ap (λ c. c.small) g, same_reply x y (ap (λ c. c.reply) g))
