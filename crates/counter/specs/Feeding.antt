-- A chunk fed line by line: what holds before each of its lines, and at its end.
use Prim.Native.Nat.{ℕ, suc, ◌+◌, ◌-◌, ◌*◌, ◌≤◌}
use Rattle.std.specs.Prelude.{Bool, true, false, cond, ◌≡◌, eqb, position, Some, None}
use mathlib.Core.List.{List, [], ◌∷◌, ◌++◌}
use Rattle.std.proofs.Math.Path.{refl, sym, ap, subst}
use Rattle.std.proofs.Common.{◌∙◌, add-one, arith, take-append-drop, take_at, length-take-le}
use Rattle.std.proofs.Math.ListN.{length, take, drop, length-append, length-take, length-drop}
use Rattle.std.proofs.Math.Seq.{take_all}
use Rattle.index.specs.Calls.{Left, unchanged, empty_book, cleared}
use Rattle.index.specs.CallLaws.{left_of}
use Rattle.index.specs.Run.{Book}
use Rattle.ground.specs.declared.refusals.Refusal.{Refusal}
use Rattle.lines.proofs.Found.{found_at, found_nowhere}
use Rattle.lines.specs.LineLaws.{printed_most}
use Rattle.lines.specs.Lines.{parsed, longest_line}
use Rattle.lines.specs.Printing.{printed, longest_answer}
use Rattle.pages.specs.Free.{empty_small, empty_table}
use Rattle.pages.specs.Layout.{table_fits}
use Rattle.pages.specs.declared.Small.{Small}
use Rattle.rules.specs.EmptyBook.{empty_well_formed}
use Rattle.wellformed.specs.WellFormed.{well_formed}
use Rattle.counter.specs.Counter.{answer_to, line_end, Counter, kept, ended, longer, by_byte, fed, finished_by, finished}
use Rattle.counter.specs.CounterLaws.{line_sound}
use Rattle.counter.specs.FeedSteps.{counter_of, Ready, MayEnd, printed_over, Shows, Opens, printed_again, fed_no_end, fed_to_end}
use Rattle.counter.specs.declared.State.{State}
use Rattle.std.specs.Prelude.{Result}

-- a book stays well-formed, whatever is fed
Sound : Counter → Type 0
Sound c = well_formed c.book.table c.book.small ≡ true

ended_sound : (c : Counter) → Sound c → Sound (ended c)
unfolding Sound ended
ended_sound c h = line_sound (parsed c.line) c.book h

fed_sound : (bs : List ℕ) (c : Counter) → Sound c → Sound (fed bs c)
unfolding fed by_byte Sound longer
fed_sound [] c h = h
fed_sound (b ∷ bs) c h = by_test (eqb b line_end) (λ x y. fed_sound bs x y)
  where
    by_test : (t : Bool) → ((x : Counter) → Sound x → Sound (fed bs x)) → Sound (fed bs (by_byte t b c))
    by_test true more = more (ended c) (ended_sound c h)
    by_test false more = more (longer (b ∷ []) c) h

-- the counter that is shown
module _ (x : Counter) (first t out : List ℕ) (s : State) (h : Shows x first t out s) where
  pub shown : counter_of t out s ≡ x
  shown =
      let o : take s.printed out ≡ x.out = ap (take s.printed) h.buffer ∙ take_at x.out (drop (length x.out) first) s.printed (sym h.past) in
      λ i. record { book = h.book i; line = h.line i; out = o i }

  pub shown_short : length s.line ≤ longest_line + 1
  shown_short = omega (arith, h.short, ap length h.line)

  pub shown_out : (s.printed ≤ length out) × (length first ≤ length out)
  shown_out =
      let long = ap length h.buffer ∙ length-append x.out (drop (length x.out) first) in
      let rest = length-drop (length x.out) first in
      (omega (arith, h.past, long), omega (arith, long, rest))

  shown_sound : Sound x → well_formed t s.small ≡ true
  unfolding Sound
  shown_sound w = subst (λ (b : Book). well_formed b.table b.small ≡ true) (sym h.book) w

-- what stands there is shown
shows_now : (t out : List ℕ) (s : State) → length s.line ≤ longest_line + 1 → s.printed ≤ length out → Shows (counter_of t out s) out t out s
shows_now t out s l h =
    let p = length-take-le s.printed out h in
    record { book = refl; line = refl; short = l; buffer = sym (take-append-drop s.printed out) ∙ ap (λ (n : ℕ). take s.printed out ++ drop n out) (sym p); past = sym p }

-- The counter before what is left of a chunk, which comes to the same as the whole.
pub record Feeding (c₀ : Counter) (input first rest t out : List ℕ) (s : State) : Type 0 where
  pub sound : well_formed t s.small ≡ true
  pub shows : Shows (counter_of t out s) first t out s
  pub room : s.printed + longest_answer * length rest ≤ length out
  pub so_far : fed rest (counter_of t out s) ≡ fed input c₀

pub feeding_begin : (input t out : List ℕ) (s : State) → Ready (length input) t out s → Feeding (counter_of t out s) input out input t out s
feeding_begin input t out s h = record { sound = h.sound; shows = shows_now t out s h.short (omega (arith, h.room)); room = h.room; so_far = refl }

module _ (c₀ : Counter) (input first rest t out : List ℕ) (s : State) (h : Feeding c₀ input first rest t out s) where
  short_line : kept s.line ≡ s.line
  short_line = take_all (longest_line + 1) s.line h.shows.short

  pub feeding_rest : position (λ b. eqb b line_end) rest ≡ None → Shows (fed input c₀) first t out (record { small = s.small; line = kept (s.line ++ rest); printed = s.printed })
  unfolding longer
  feeding_rest none =
      let last : fed rest (counter_of t out s) ≡ longer rest (counter_of t out s) = fed_no_end rest (counter_of t out s) short_line (found_nowhere (λ b. eqb b line_end) rest none) in
      subst (λ (x : Counter). Shows x first t out (record { small = s.small; line = kept (s.line ++ rest); printed = s.printed })) (sym last ∙ h.so_far)
      (record { book = refl; line = refl; short = omega (arith, length-take (longest_line + 1) (s.line ++ rest)); buffer = h.shows.buffer; past = h.shows.past })

  module _ (end : ℕ) (at : position (λ b. eqb b line_end) rest ≡ Some end) where
    pub feeding_may_end : MayEnd t out s
    feeding_may_end = let k = found_at (λ b. eqb b line_end) rest end at in record { sound = h.sound; room = omega (arith, h.room, k.0) }

    pub feeding_turn :
        (u buffer : List ℕ) (r : State) → Shows (ended (longer (take end rest) (counter_of t out s))) out u buffer r
        → Feeding c₀ input first (take (length rest - (end + 1)) (drop (end + 1) rest)) u buffer r
    unfolding ended longer Sound
    feeding_turn u buffer r v =
        let k = found_at (λ b. eqb b line_end) rest end at in
        let c : Counter = counter_of t out s in
        let y : Counter = ended (longer (take end rest) c) in
        let is : counter_of u buffer r ≡ y = shown y out u buffer r v in
        let left : take (length rest - (end + 1)) (drop (end + 1) rest) ≡ drop (suc end) rest =
        ap (λ (n : ℕ). take (length rest - (end + 1)) (drop n rest)) (add-one end) ∙ take_all (length rest - (end + 1)) (drop (suc end) rest) (omega (arith, length-drop (suc end) rest)) in
        let there : fed rest c ≡ fed (drop (suc end) rest) y = rw k.1 at (fed_to_end rest c short_line (omega (arith, k.0, k.1))) in
        let answer = answer_to (parsed (longer (take end rest) c).line) c.book in
        let grown : length y.out ≡ length c.out + length (printed answer) = length-append c.out (printed answer) in
        record {
          sound = shown_sound y out u buffer r v (ended_sound (longer (take end rest) c) h.sound);
          shows =
              subst (λ (x : Counter). Shows x first u buffer r) (sym is)
              (record { book = v.book; line = v.line; short = v.short; buffer = v.buffer ∙ ap (printed_over y.out) h.shows.buffer ∙ printed_again first c.out y.out (omega (arith, grown)); past = v.past });
          room = omega (arith, v.past, grown, printed_most answer, h.room, h.shows.past, (shown_out y out u buffer r v).1, ap length left, length-drop (suc end) rest, k.0);
          so_far = (λ i. fed (left i) (is i)) ∙ sym there ∙ h.so_far;
        }

-- The end of the input.
module _ (t out : List ℕ) (s : State) (h : Ready 1 t out s) where
  pub finished_none : s.line ≡ [] → Shows (finished (counter_of t out s)) out t out s
  unfolding finished_by
  finished_none e = subst (λ (x : Counter). Shows x out t out s) (ap (λ (l : List ℕ). finished_by l (counter_of t out s)) (sym e)) (shows_now t out s h.short (omega (arith, h.room)))

  pub may_finish : MayEnd t out s
  may_finish = record { sound = h.sound; room = omega (arith, h.room) }

  begun : (l : List ℕ) (c : Counter) → (l ≡ [] → ⊥) → ended c ≡ finished_by l c
  unfolding finished_by
  begun [] c d = absurd (d refl)
  begun (b ∷ l) c d = refl

  pub finished_some : (u buffer : List ℕ) (r : State) → (s.line ≡ [] → ⊥) → Shows (ended (counter_of t out s)) out u buffer r → Shows (finished (counter_of t out s)) out u buffer r
  finished_some u buffer r d v = subst (λ (x : Counter). Shows x out u buffer r) (begun s.line (counter_of t out s) d) v

-- The cleared book.
empty_small_lem : (t : List ℕ) → (cleared t empty_small).small ≡ empty_small
unfolding cleared
empty_small_lem t = by_test (table_fits t)
  where
    by_test : (b : Bool) → (cond b (empty_book 0 t) (unchanged 1 t empty_small)).small ≡ empty_small
    by_test true = refl
    by_test false = refl

pub opened : (t u : List ℕ) (s small : Small) (x : State) (r : Result Unit Refusal) → s ≡ empty_small → left_of u small r ≡ cleared t s → x ≡ record { small = small; line = []; printed = 0 } → Opens t u x
opened t u s small x r e h m =
    let all : left_of u small r ≡ cleared t empty_small = h ∙ ap (cleared t) e in
    let same : small ≡ empty_small = ap (λ (x : Left). x.small) all ∙ empty_small_lem t in
    record { table = ap (λ (x : Left). x.table) all; state = m ∙ (λ i. record { small = same i; line = []; printed = 0 }) }

-- A cleared book is ready for input, and so is what a chunk leaves once its answers are written.
pub opened_ready : (n : ℕ) (t u out : List ℕ) (s : State) → table_fits t ≡ true → longest_answer * n ≤ length out → Opens t u s → Ready n u out s
unfolding cleared
opened_ready n t u out s fits room h =
    let table : u ≡ empty_table t = rw fits at h.table in
    subst (λ (x : State). Ready n u out x) (sym h.state)
    (record { sound = subst (λ (x : List ℕ). well_formed x empty_small ≡ true) (sym table) (empty_well_formed t fits); short = omega arith; room = omega arith })

pub fed_ready :
    (n : ℕ) (input t out u buffer : List ℕ) (s r : State) → longest_answer * n ≤ length buffer → Ready (length input) t out s
    → Shows (fed input (counter_of t out s)) out u buffer r → Ready n u buffer (record { small = r.small; line = r.line; printed = 0 })
unfolding Sound
fed_ready n input t out u buffer s r room h v =
    let x = fed input (counter_of t out s) in
    record { sound = shown_sound x out u buffer r v (fed_sound input (counter_of t out s) h.sound); short = shown_short x out u buffer r v; room = omega arith }
