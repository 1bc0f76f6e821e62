-- What the code does at a line and at a chunk.
use Rattle.std.specs.Prelude.{ℕ, ◌+◌, ◌-◌, ◌≤◌, true, List, ◌≡◌, leb, eqb, length, Result, Ok, Err}
use Rattle.std.proofs.Math.Path.{ap}
use Rattle.std.proofs.Common.{◌∙◌, arith, eqb-true}
use Rattle.asking.specs.Asking.{asked}
use Rattle.ground.specs.Tests.{both}
use Rattle.ground.specs.declared.boxes.Box.{Box}
use Rattle.ground.specs.declared.refusals.Refusal.{Refusal}
use Rattle.index.specs.Calls.{counted}
use Rattle.index.specs.Run.{Book}
use Rattle.index.specs.WideCalls.{record_wide}
use Rattle.lines.specs.LineLaws.{prints_at}
use Rattle.wide.specs.Wide.{narrow, narrowed, as_given}
use Rattle.lines.specs.Printing.{numbered, printed, put, longest_answer, Prints}
use Rattle.lines.specs.declared.printing.Answer.{Answer}
use Rattle.lines.specs.declared.printing.Answer.TheVariants as told
use Rattle.lines.specs.declared.reading.Line.{Line}
use Rattle.lines.specs.declared.reading.Line.TheVariants as typed
use Rattle.wide.specs.declared.WideBox.{WideBox}
use Rattle.pages.specs.Layout.{pages_of}
use Rattle.pages.specs.declared.Small.{Small}
use Rattle.recording.specs.CallSteps.{reply_of, called_of}
use Rattle.recording.specs.declared.Recorded.{Recorded}
use Rattle.rules.specs.Record.{record_into}
use Rattle.wellformed.specs.Parts.{parts}
use Rattle.wellformed.specs.WellFormed.{held_records, most_accepted, counts_stand, well_formed}
use Rattle.counter.specs.Counter.{calls_of, record_says, ask_says, count_says, answer_to, after_all, book_after}

abbrev pub book_of : List ℕ → Small → Book
book_of t s = record { table = t; small = s }

-- A line's answer, and the book that it leaves.
pub record Tells (t u : List ℕ) (s small : Small) (l : Result Line Refusal) (said : Result Answer Refusal) : Type 0 where
  pub answer : numbered said ≡ answer_to l (book_of t s)
  pub book : book_of u small ≡ book_after l (book_of t s)

-- The answer printed at a place.
pub record Serves (t u : List ℕ) (s small : Small) (l : Result Line Refusal) (before after : List ℕ) (place next : ℕ) : Type 0 where
  pub book : book_of u small ≡ book_after l (book_of t s)
  pub buffer : after ≡ put before place (printed (answer_to l (book_of t s)))
  pub past : next ≡ place + length (printed (answer_to l (book_of t s)))

-- on a well-formed book the held records are what is left of those accepted
pub record CountSound (t : List ℕ) (s : Small) : Type 0 where
  pub few : s.struck + s.covered ≤ s.accepted
  pub says : Ok (told.Counts s.accepted (s.accepted - s.struck - s.covered) s.struck s.covered) ≡ count_says (counted t s)

pub count_sound : (t : List ℕ) (s : Small) → well_formed t s ≡ true → CountSound t s
unfolding counts_stand counted count_says
count_sound t s w =
    let p = parts t s w in
    let n = length (held_records (pages_of t) s) in
    let sum = eqb-true (n + s.struck + s.covered) s.accepted (both (leb s.accepted most_accepted) (eqb (n + s.struck + s.covered) s.accepted) p.counts).1 in
    let left : s.accepted - s.struck - s.covered ≡ n = omega arith in
    record { few = omega arith; says = rw (p.fits, w, left) }

-- a report that was handed in with its numbers narrowed
pub told_add :
    (t u : List ℕ) (s small : Small) (x : WideBox) (v : ℕ) (b : Box) (w : ℕ) (r : Result Recorded Refusal) (said : Result Answer Refusal)
    → b ≡ narrowed x → w ≡ narrow v → called_of u small r ≡ record_into t s b w → numbered said ≡ record_says (reply_of r) → Tells t u s small (Ok (typed.Add x v)) said
unfolding answer_to after_all calls_of
told_add t u s small x v b w r said e f h g =
    let all : called_of u small r ≡ record_into t s (as_given x) v = h ∙ (λ i. record_into t s (e i) (f i)) ∙ record_wide t s x v in
    record { answer = g ∙ ap (λ y. record_says y.reply) all; book = λ i. record { table = (all i).table; small = (all i).small } }

-- a line of none of the forms, a question and a count leave the book as it was
module _ (t : List ℕ) (s : Small) (l : Result Line Refusal) where
  pub told_refused : (refusal : Refusal) → l ≡ Err refusal → Tells t t s s l (Err refusal)
  unfolding answer_to after_all calls_of
  told_refused refusal e = record { answer = rw e; book = rw e }

  pub told_ask : (x : WideBox) (said : Result Answer Refusal) → l ≡ Ok (typed.Ask x) → numbered said ≡ ask_says (asked t s (as_given x)) → Tells t t s s l said
  unfolding answer_to after_all calls_of
  told_ask x said e h = record { answer = rw e h; book = rw e }

  pub told_count : (said : Result Answer Refusal) → l ≡ Ok typed.Count → numbered said ≡ count_says (counted t s) → Tells t t s s l said
  unfolding answer_to after_all calls_of
  told_count said e h = record { answer = rw e h; book = rw e }

-- a line answered and its answer printed
pub served_line :
    (t u : List ℕ) (s small : Small) (l : Result Line Refusal) (said : Result Answer Refusal) (before after : List ℕ) (place next : ℕ)
    → place + longest_answer ≤ length before → Tells t u s small l said → Prints (numbered said) before after place next → Serves t u s small l before after place next
served_line t u s small l said before after place next room h p =
    let k = prints_at (numbered said) before place room in
    record {
      book = h.book;
      buffer = p.buffer ∙ k.0 ∙ ap (λ y. put before place (printed y)) h.answer;
      past = p.past ∙ k.1 ∙ ap (λ y. place + length (printed y)) h.answer;
    }
