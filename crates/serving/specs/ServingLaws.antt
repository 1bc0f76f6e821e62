-- Turn after turn: what each keeps, and what all come to.
use Rattle.std.specs.Prelude.{ℕ, ◌-◌, ◌≤◌, Bool, true, false, ◌≡◌, refl, Option, Result, Ok, Err}
use Rattle.std.specs.Option.{unwrap_or}
use Rattle.std.specs.Result.{result_ok, result_unwrap_or}
use mathlib.Core.List.{List, [], ◌∷◌, ◌++◌, append_assoc, append-nil}
use Rattle.std.proofs.Math.Path.{sym, ap, subst}
use Rattle.std.proofs.Common.{◌∙◌, arith, take-append-drop}
use Rattle.std.proofs.Math.ListN.{length, take, drop, length-take, length-drop}
use Rattle.std.proofs.Math.Seq.{take_all}
use Rattle.counter.specs.Counter.{lines_of, served, book_served, Counter, opening, fed, finished, written, whole, left_by, answers_to}
use Rattle.counter.specs.CounterLaws.{left_by_more, answers_to_more, whatever_chunks, whatever_chunks_book}
use Rattle.counter.specs.FeedSteps.{counter_of, Ready, Shows, Opens}
use Rattle.counter.specs.Feeding.{shown, shown_out, fed_ready}
use Rattle.counter.specs.declared.State.{State}
use Rattle.index.specs.Calls.{cleared}
use Rattle.index.specs.Run.{Book}
use Rattle.std.specs.Io.{ReadsAtMost, WritesAtMost}
use Rattle.std.specs.declared.io.Error.{Error}
use Rattle.pages.specs.Free.{empty_small, empty_table}
use Rattle.pages.specs.Layout.{table_fits}
use Rattle.serving.specs.Outside.{Happened, a_read, a_write, took_none, nothing_yet, and_then}
use Rattle.serving.specs.Serving.{MayServe, CameIn, Took, Handing, HandedOver, Turned, all_handed, read_out, all_by, out_by, Served, LastHanded, emptied, Offered, Ran}
use Rattle.serving.specs.declared.Ending.{Ending}
use Rattle.serving.specs.declared.Ending.TheVariants.{NotWritten}

-- what a read left came in
pub came_in : (after : List ℕ) (answer : Result ℕ Error) → ReadsAtMost answer after → CameIn after (result_ok answer)
came_in after (Ok n) h = record { within = h.0; happened = a_read (Ok n) after h }
came_in after (Err e) h = record { within = omega arith; happened = a_read (Err e) after h }

-- what a write took was handed over
pub took_so : (bytes : List ℕ) (answer : Result ℕ Error) → WritesAtMost answer bytes → Took bytes (result_unwrap_or answer 0)
took_so bytes (Ok n) h = record { within = h; happened = a_write (Ok n) bytes h; none = λ e some. took_none (Ok n) bytes h (ap (λ (k : ℕ). take k bytes) e) some }
took_so bytes (Err e) h = record { within = omega arith; happened = a_write (Err e) bytes h; none = λ z some. took_none (Err e) bytes h refl some }

pub never_both : {A : Type 0} (b : Bool) → b ≡ true → b ≡ false → A
never_both b e f = let z : ◌≡◌ {A = ℕ} 0 1 = cc in absurd (omega arith)

-- what writes took, one after the other, was handed over
pub handed_none : (bytes : List ℕ) → Handing bytes bytes
handed_none bytes = record { handed = []; in_order_lem = refl; happened = nothing_yet }

module _ (bytes rest : List ℕ) (h : Handing bytes rest) where
  pub handed_more : (took : ℕ) → Took rest took → Handing bytes (take (length rest - took) (drop took rest))
  handed_more took k =
      let left : take (length rest - took) (drop took rest) ≡ drop took rest = take_all (length rest - took) (drop took rest) (omega (arith, length-drop took rest)) in
      record {
        handed = h.handed ++ take took rest;
        in_order_lem = rw left (append_assoc h.handed (take took rest) (drop took rest) ∙ ap (λ (l : List ℕ). h.handed ++ l) (take-append-drop took rest) ∙ h.in_order_lem);
        happened = and_then [] [] h.handed (take took rest) h.happened k.happened;
      }

  pub handed_stop : (took : ℕ) → Took rest took → took ≡ 0 → 1 ≤ length rest → HandedOver bytes false
  handed_stop took k none some = record { rest = rest; taken = h; no_rest = λ g. never_both false g refl; stopped = λ g. k.none none some }

  pub handed_all : length rest ≤ 0 → HandedOver bytes true
  handed_all none = record { rest = rest; taken = h; no_rest = λ g. no_bytes rest none; stopped = λ g. never_both true refl g }
    where
      no_bytes : (l : List ℕ) → length l ≤ 0 → l ≡ []
      no_bytes [] e = refl
      no_bytes (b ∷ l) e = absurd (omega arith)

-- the last answer
module _ (e : Ending) (bytes : List ℕ) where
  pub last_kept_back : all_handed e ≡ false → LastHanded e bytes e
  last_kept_back f =
      record { handed = []; rest = bytes; happened = nothing_yet; in_order_lem = refl; kept_back = λ g. refl; no_rest = λ g. never_both (all_handed e) g f; stopped = λ g k. never_both (all_handed e) g f; same_end = λ g. g }

  module _ (all : Bool) (h : HandedOver bytes all) (f : all_handed e ≡ true) where
    handed_so : (r : Ending) → (all_handed r ≡ true → all ≡ true) → (all_handed r ≡ false → all ≡ false) → (read_out r ≡ true → read_out e ≡ true) → LastHanded e bytes r
    handed_so r g short same =
        record {
          handed = h.taken.handed;
          rest = h.rest;
          happened = h.taken.happened;
          in_order_lem = h.taken.in_order_lem;
          stopped = λ j k. h.stopped (short k);
          kept_back = λ k. never_both (all_handed e) f k;
          no_rest = λ k. (f, h.no_rest (g k));
          same_end = same;
        }

    pub last_short : all ≡ false → LastHanded e bytes NotWritten
    last_short none = handed_so NotWritten (λ g. never_both false g refl) (λ g. none) (λ g. never_both false g refl)

    pub last_whole : all ≡ true → LastHanded e bytes e
    last_whole whole = handed_so e (λ g. whole) (λ g. never_both (all_handed e) f g) (λ g. g)

-- a chunk read, fed, and its answers handed over
pub turned :
    (t out : List ℕ) (s : State) (input : List ℕ) (came : Option ℕ) → CameIn input came
    → (u buffer : List ℕ) (r : State) → Shows (fed (take (unwrap_or came 0) input) (counter_of t out s)) out u buffer r
    → (all : Bool) → HandedOver (take r.printed buffer) all
    → (ending : Option Ending) → all_by ending ≡ all → (out_by ending ≡ true → unwrap_or came 0 ≡ 0) → Turned (counter_of t out s) out input u buffer r ending
turned t out s input came h u buffer r v all w ending e empty =
    let x : Counter = fed (take (unwrap_or came 0) input) (counter_of t out s) in
    let said : take r.printed buffer ≡ x.out = ap (λ (y : Counter). y.out) (shown x out u buffer r v) in
    record {
      came = unwrap_or came 0;
      rest = w.rest;
      within = h.within;
      shows = v;
      handed = w.taken.handed;
      in_order_lem = w.taken.in_order_lem ∙ said;
      happened = and_then (take (unwrap_or came 0) input ∷ []) [] [] w.taken.handed h.happened w.taken.happened;
      no_rest = λ g. w.no_rest (sym e ∙ g);
      stopped = λ g. w.stopped (sym e ∙ g);
      ends = empty;
    }

-- there is room for the answers to fewer lines
pub fewer : (m n : ℕ) (t out : List ℕ) (s : State) → m ≤ n → Ready n t out s → Ready m t out s
fewer m n t out s less h = record { sound = h.sound; short = h.short; room = omega (arith, h.room) }

-- before the first turn
pub none_served : (n : ℕ) (t out : List ℕ) (s : State) → Ready n t out s → Served (counter_of t out s) n t out s true false
unfolding left_by answers_to
none_served n t out s h =
    record { chunks = []; handed = []; rest = []; happened = nothing_yet; left = refl; in_order_lem = refl; no_rest = λ e. refl; stopped = λ e. never_both true refl e; ends = λ e. never_both false e refl; ready = h }

-- a turn more, after which what was printed is written
pub served_more :
    (c : Counter) (n : ℕ) (t out : List ℕ) (s : State) → Served c n t out s true false
    → (input u buffer : List ℕ) (r : State) (ending : Option Ending) → length input ≤ n → Turned (counter_of t out s) out input u buffer r ending
    → (w : State) → w ≡ record { small = r.small; line = r.line; printed = 0 } → Served c n u buffer w (all_by ending) (out_by ending)
served_more c n t out s h input u buffer r ending less v w e =
    let chunk : List ℕ = take v.came input in
    let x : Counter = fed chunk (counter_of t out s) in
    let before : h.handed ≡ answers_to h.chunks c = sym (append-nil h.handed) ∙ ap (λ (l : List ℕ). h.handed ++ l) (sym (h.no_rest refl)) ∙ h.in_order_lem in
    let room : Ready n u buffer (record { small = r.small; line = r.line; printed = 0 }) =
    fed_ready n chunk t out u buffer s r (omega (arith, h.ready.room, (shown_out x out u buffer r v.shows).1)) (fewer (length chunk) n t out s (omega (arith, length-take v.came input)) h.ready) v.shows in
    record {
      chunks = h.chunks ++ (chunk ∷ []);
      handed = h.handed ++ v.handed;
      rest = v.rest;
      happened = and_then h.chunks (chunk ∷ []) h.handed v.handed h.happened v.happened;
      left =
          ap (counter_of u buffer) e
          ∙ ap (λ (y : Counter). written y) (shown x out u buffer r v.shows)
          ∙ ap (λ (y : Counter). written (fed chunk y)) h.left
          ∙ sym (left_by_more h.chunks chunk c);
      in_order_lem =
          append_assoc h.handed v.handed v.rest
          ∙ ap (λ (l : List ℕ). h.handed ++ l) v.in_order_lem
          ∙ (λ i. before i ++ (fed chunk (h.left i)).out)
          ∙ sym (answers_to_more h.chunks chunk c);
      no_rest = v.no_rest;
      stopped = v.stopped;
      ends = λ g. record { before = h.chunks; last_empty = ap (λ (m : ℕ). h.chunks ++ (take m input ∷ [])) (v.ends g) };
      ready = subst (λ (y : State). Ready n u buffer y) (sym e) room;
    }

-- the first turn's book
opened_empty : (t out u : List ℕ) (s : State) → table_fits t ≡ true → Opens t u s → counter_of u out s ≡ opening (emptied t)
unfolding cleared
opened_empty t out u s fits e =
    let table : u ≡ empty_table t = rw fits at e.table in
    ap (counter_of u out) e.state ∙ ap (λ (x : List ℕ). opening (record { table = x; small = empty_small })) table

-- an earlier rest keeps the last answer back, so that what was handed over is in order
kept_order : (xs ys vs ws : List ℕ) (all : Bool) → (all ≡ true → ys ≡ []) → (all ≡ false → vs ≡ []) → (xs ++ vs) ++ (ys ++ ws) ≡ (xs ++ ys) ++ (vs ++ ws)
kept_order xs ys vs ws true f g = rw (f refl, append-nil xs, append_assoc xs vs ws)
kept_order xs ys vs ws false f g = rw (g refl, append-nil xs, append_assoc xs ys ws)

-- the whole run
module _ (t input out u : List ℕ) (s : State) (may : MayServe t input out) (opens : Opens t u s) where
  pub ran :
      (t₂ out₂ : List ℕ) (s₂ : State) (e : Ending) → Served (counter_of u out s) (length input) t₂ out₂ s₂ (all_handed e) (read_out e)
      → (t₃ out₃ : List ℕ) (s₃ : State) → Shows (finished (counter_of t₂ out₂ s₂)) out₂ t₃ out₃ s₃
      → (r : Ending) → LastHanded e (take s₃.printed out₃) r → Ran t t₃ r
  ran t₂ out₂ s₂ e h t₃ out₃ s₃ v r l =
      let k = emptied t in
      let first : counter_of u out s ≡ opening k = opened_empty t out u s may.fits opens in
      let left : counter_of t₂ out₂ s₂ ≡ left_by h.chunks (opening k) = h.left ∙ ap (left_by h.chunks) first in
      let end = shown (finished (counter_of t₂ out₂ s₂)) out₂ t₃ out₃ s₃ v ∙ ap (λ (x : Counter). finished x) left in
      let order : (h.handed ++ l.handed) ++ (h.rest ++ l.rest) ≡ (h.handed ++ h.rest) ++ (l.handed ++ l.rest) =
      kept_order h.handed h.rest l.handed l.rest (all_handed e) h.no_rest l.kept_back in
      record {
        chunks = h.chunks;
        handed = h.handed ++ l.handed;
        rest = h.rest ++ l.rest;
        happened = subst (λ (cs : List (List ℕ)). Happened cs (h.handed ++ l.handed)) (append-nil h.chunks) (and_then h.chunks [] h.handed l.handed h.happened l.happened);
        answers =
            order
            ∙ (λ i. (h.in_order_lem ∙ ap (answers_to h.chunks) first) i ++ (l.in_order_lem ∙ ap (λ (x : Counter). x.out) end) i)
            ∙ whatever_chunks h.chunks k;
        no_rest = λ g. λ i. h.no_rest (l.no_rest g).0 i ++ (l.no_rest g).1 i;
        stopped = λ g. by_end (all_handed e) refl g;
        ends = λ g. h.ends (l.same_end g);
        book = ap (λ (x : Counter). x.book.table) end ∙ ap (λ (b : Book). b.table) (whatever_chunks_book h.chunks k);
      }
    where
      by_end : (b : Bool) → all_handed e ≡ b → all_handed r ≡ false → Offered (h.rest ++ l.rest)
      by_end false f g = record { first = h.rest; more = l.rest; is = refl; took_none = h.stopped f }
      by_end true f g = record { first = l.rest; more = []; is = ap (λ (x : List ℕ). x ++ l.rest) (h.no_rest f) ∙ sym (append-nil l.rest); took_none = l.stopped f g }

-- Two runs in which the same was read and the writer took all: it took the same, and the same table is left.
pub run_settled :
    (t u w : List ℕ) (r q : Ending) (a : Ran t u r) (b : Ran t w q) → a.chunks ≡ b.chunks → all_handed r ≡ true → all_handed q ≡ true → (a.handed ≡ b.handed) × (u ≡ w)
run_settled t u w r q a b same f g = (
  all_handed_lem u r a f ∙ ap (λ (cs : List (List ℕ)). served (lines_of (whole cs)) (emptied t)) same ∙ sym (all_handed_lem w q b g),
  a.book ∙ ap (λ (cs : List (List ℕ)). (book_served (lines_of (whole cs)) (emptied t)).table) same ∙ sym b.book,
)
  where
    all_handed_lem : (v : List ℕ) (e : Ending) (x : Ran t v e) → all_handed e ≡ true → x.handed ≡ served (lines_of (whole x.chunks)) (emptied t)
    all_handed_lem v e x h = sym (append-nil x.handed) ∙ ap (λ (l : List ℕ). x.handed ++ l) (sym (x.no_rest h)) ∙ x.answers
