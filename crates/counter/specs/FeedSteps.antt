-- What the code does with a chunk: where the lines of it end, and what is kept and printed.
use Rattle.std.specs.Prelude.{ℕ, suc, ◌+◌, ◌-◌, ◌*◌, ◌≤◌, ◌<◌, Bool, true, false, not, cond, ◌≡◌, refl, eqb, drop}
use mathlib.Core.List.{List, [], ◌∷◌, ◌++◌, append_assoc, append-nil}
use Rattle.std.proofs.Common.{sym, ◌∙◌, arith, take-take, drop-drop, one-add}
use Rattle.std.proofs.Math.Path.{ap}
use Rattle.std.proofs.Math.ListN.{length, take, length-append}
use Rattle.std.proofs.Math.Seq.{drop-append-add, length-take-le}
use Rattle.std.specs.List.{position_or_len}
use Rattle.counter.specs.Counter.{answer_to, book_after, line_end, Counter, kept, ended, longer, by_byte, fed}
use Rattle.counter.specs.CounterLaws.{parsed_kept, kept_on}
use Rattle.counter.specs.Steps.{book_of, Serves}
use Rattle.counter.specs.declared.State.{State}
use Rattle.index.specs.Calls.{cleared}
use Rattle.lines.specs.Lines.{parsed, longest_line}
use Rattle.lines.specs.Printing.{printed, put, longest_answer}
use Rattle.pages.specs.Free.{empty_small}
use Rattle.pages.specs.declared.Small.{Small}
use Rattle.wellformed.specs.WellFormed.{well_formed}

-- The counter that the code's table, buffer and state are.
abbrev pub counter_of : List ℕ → List ℕ → State → Counter
counter_of t out s = record { book = book_of t s.small; line = s.line; out = take s.printed out }

-- Before a chunk in which so many lines may end.
pub record Ready (n : ℕ) (t out : List ℕ) (s : State) : Type 0 where
  pub sound : well_formed t s.small ≡ true
  pub short : length s.line ≤ longest_line + 1
  pub room : s.printed + longest_answer * n ≤ length out

-- before the end of one line
pub record MayEnd (t out : List ℕ) (s : State) : Type 0 where
  pub sound : well_formed t s.small ≡ true
  pub room : s.printed + longest_answer ≤ length out

-- Bytes printed from a buffer's start on; what it held first stands after them.
abbrev pub printed_over : List ℕ → List ℕ → List ℕ
printed_over bytes first = bytes ++ drop (length bytes) first

-- Table, buffer and state afterwards, every word and byte: they are a counter's.
pub record Shows (x : Counter) (first t out : List ℕ) (s : State) : Type 0 where
  pub book : book_of t s.small ≡ x.book
  pub line : s.line ≡ x.line
  pub short : length x.line ≤ longest_line + 1
  pub buffer : out ≡ printed_over x.out first
  pub past : s.printed ≡ length x.out

-- The cleared book, at the start of a line.
pub record Opens (t u : List ℕ) (s : State) : Type 0 where
  pub table : u ≡ (cleared t empty_small).table
  pub state : s ≡ record { small = empty_small; line = []; printed = 0 }

-- bytes printed behind those printed so far
put_behind : (out bytes : List ℕ) (p : ℕ) → p ≤ length out → put out p bytes ≡ printed_over (take p out ++ bytes) out
unfolding put
put_behind out bytes p h =
    let long : length (take p out ++ bytes) ≡ p + length bytes = length-append (take p out) bytes ∙ ap (λ (n : ℕ). n + length bytes) (length-take-le p out h) in
    sym (append_assoc (take p out) bytes (drop (p + length bytes) out)) ∙ ap (λ (n : ℕ). (take p out ++ bytes) ++ drop n out) (sym long)

pub printed_again : (first xs ys : List ℕ) → length xs ≤ length ys → printed_over ys (printed_over xs first) ≡ printed_over ys first
printed_again first xs ys h =
    let k : ℕ = length ys - length xs in
    let e : length ys ≡ length xs + k = omega arith in
    ap (λ (l : List ℕ). ys ++ l)
    (ap (λ (n : ℕ). drop n (xs ++ drop (length xs) first)) e
    ∙ drop-append-add xs (drop (length xs) first) k
    ∙ drop-drop k (length xs) first
    ∙ ap (λ (n : ℕ). drop n first) (sym e))

-- a line answered: the bytes that were read may be the line or all that is kept of it
module _ (t out : List ℕ) (s : State) (h : MayEnd t out s) (u buffer : List ℕ) (small : Small) (next : ℕ) where
  ended_so :
      (l b : List ℕ) → parsed b ≡ parsed l → Serves t u s.small small (parsed b) out buffer s.printed next
      → Shows (ended (record { book = book_of t s.small; line = l; out = take s.printed out })) out u buffer (record { small = small; line = []; printed = next })
  unfolding ended
  ended_so l b e v =
      let said = printed (answer_to (parsed l) (book_of t s.small)) in
      let same : printed (answer_to (parsed b) (book_of t s.small)) ≡ said = ap (λ y. printed (answer_to y (book_of t s.small))) e in
      let long = length-take-le s.printed out (omega (arith, h.room)) in
      record {
        book = v.book ∙ ap (λ y. book_after y (book_of t s.small)) e;
        line = refl;
        short = omega arith;
        buffer = v.buffer ∙ ap (put out s.printed) same ∙ put_behind out said s.printed (omega (arith, h.room));
        past = v.past ∙ ap (λ (y : List ℕ). s.printed + length y) same ∙ omega (arith, long, length-append (take s.printed out) said);
      }

  pub ended_kept : Serves t u s.small small (parsed s.line) out buffer s.printed next → Shows (ended (counter_of t out s)) out u buffer (record { small = small; line = []; printed = next })
  ended_kept v = ended_so s.line s.line refl v

  pub ended_here :
      (more : List ℕ) → s.line ≡ [] → Serves t u s.small small (parsed more) out buffer s.printed next
      → Shows (ended (longer more (counter_of t out s))) out u buffer (record { small = small; line = s.line; printed = next })
  unfolding longer
  ended_here more e v = rw e (ended_so (kept more) more (sym (parsed_kept more)) v)

-- The bytes of a chunk up to the first end of a line, and after it.
longer_none : (c : Counter) → kept c.line ≡ c.line → longer [] c ≡ c
unfolding longer
longer_none c e = λ i. record { book = c.book; line = (ap kept (append-nil c.line) ∙ e) i; out = c.out }

longer_on : (b : ℕ) (bytes : List ℕ) (c : Counter) → longer bytes (longer (b ∷ []) c) ≡ longer (b ∷ bytes) c
unfolding longer
longer_on b bytes c =
    let e : kept (kept (c.line ++ (b ∷ [])) ++ bytes) ≡ kept (c.line ++ (b ∷ bytes)) = kept_on (c.line ++ (b ∷ [])) bytes ∙ ap kept (append_assoc c.line (b ∷ []) bytes) in
    λ i. record { book = c.book; line = e i; out = c.out }

still_kept : (bytes : List ℕ) (c : Counter) → kept (longer bytes c).line ≡ (longer bytes c).line
unfolding longer
still_kept bytes c = take-take (longest_line + 1) (longest_line + 1) (c.line ++ bytes) (omega arith)

pub fed_no_end : (bs : List ℕ) (c : Counter) → kept c.line ≡ c.line → length bs ≤ position_or_len (λ b. eqb b line_end) bs → fed bs c ≡ longer bs c
unfolding fed by_byte
fed_no_end [] c e h = sym (longer_none c e)
fed_no_end (b ∷ bs) c e h = by_test (eqb b line_end) h (λ g. fed_no_end bs (longer (b ∷ []) c) (still_kept (b ∷ []) c) g)
  where
    by_test :
        (t : Bool) → suc (length bs) ≤ cond (not t) (1 + position_or_len (λ b. eqb b line_end) bs) 0
        → (length bs ≤ position_or_len (λ b. eqb b line_end) bs → fed bs (longer (b ∷ []) c) ≡ longer bs (longer (b ∷ []) c)) → fed bs (by_byte t b c) ≡ longer (b ∷ bs) c
    by_test true g more = absurd (omega arith)
    by_test false g more = more (omega arith) ∙ longer_on b bs c

pub fed_to_end :
    (bs : List ℕ) (c : Counter) → kept c.line ≡ c.line → position_or_len (λ b. eqb b line_end) bs < length bs
    → fed bs c ≡ fed (drop (suc (position_or_len (λ b. eqb b line_end) bs)) bs) (ended (longer (take (position_or_len (λ b. eqb b line_end) bs) bs) c))
unfolding fed by_byte
fed_to_end [] c e h = absurd (omega arith)
fed_to_end (b ∷ bs) c e h = by_test (eqb b line_end) h (λ g. fed_to_end bs (longer (b ∷ []) c) (still_kept (b ∷ []) c) g)
  where
    by_test :
        (t : Bool) → cond (not t) (1 + position_or_len (λ b. eqb b line_end) bs) 0 < suc (length bs)
        → (position_or_len (λ b. eqb b line_end) bs < length bs
        → fed bs (longer (b ∷ []) c) ≡ fed (drop (suc (position_or_len (λ b. eqb b line_end) bs)) bs) (ended (longer (take (position_or_len (λ b. eqb b line_end) bs) bs) (longer (b ∷ []) c))))
        → fed bs (by_byte t b c)
        ≡ fed (drop (cond (not t) (1 + position_or_len (λ b. eqb b line_end) bs) 0) bs) (ended (longer (take (cond (not t) (1 + position_or_len (λ b. eqb b line_end) bs) 0) (b ∷ bs)) c))
    by_test true g more = ap (λ x. fed bs (ended x)) (sym (longer_none c e))
    by_test false g more =
        rw (one-add (position_or_len (λ b. eqb b line_end) bs))
        (more (omega arith) ∙ ap (λ x. fed (drop (suc (position_or_len (λ b. eqb b line_end) bs)) bs) (ended x)) (longer_on b (take (position_or_len (λ b. eqb b line_end) bs) bs) c))
