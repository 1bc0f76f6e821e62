-- What the bytes come to: chunks of any cut, and the whole output line by line.
use Rattle.std.specs.Prelude.{ℕ, zero, suc, ◌+◌, ◌≤◌, ◌<◌, Bool, true, false, cond, List, [], ◌∷◌, ◌++◌, ◌↔◌, ◌≡◌, refl, eqb, length, Result, Ok, Err}
use Rattle.std.proofs.Common.{append_assoc, append-nil, ⊎_elim, sym, ap, ◌∙◌, subst, add-one, arith, length-take, take_all, take-take}
use Rattle.std.proofs.lemmas.List.{take-append-le}
use Rattle.asking.specs.Asking.{Search, Search.refused, Search.found, search_book, answered, asked, says}
use Rattle.asking.specs.BoxMax.{box_max}
use Rattle.asking.specs.ExactEntries.{All}
use Rattle.asking.specs.declared.Asked.{Asked}
use Rattle.ground.specs.Refusals.{not_none}
use Rattle.ground.specs.declared.refusals.Refusal.{Refusal}
use Rattle.ground.specs.declared.refusals.Refusal.TheVariants as no
use Rattle.ground.specs.Boxes.{touches, legal}
use Rattle.ground.specs.Tests.{below_or_not}
use Rattle.ground.specs.declared.boxes.Box.{Box}
use Rattle.index.specs.Run.{Call, Book, after, held, Moment, turn, run, Good}
use Rattle.index.specs.RunLaws.{any_run, any_run_from_empty}
use Rattle.lines.specs.LineLaws.{long_refused}
use Rattle.lines.specs.Lines.{parsed, longest_line}
use Rattle.lines.specs.Printing.{printed}
use Rattle.lines.specs.declared.reading.Line.{Line}
use Rattle.lines.specs.declared.reading.Line.TheVariants as typed
use Rattle.pages.specs.Free.{empty_table, empty_small}
use Rattle.pages.specs.Layout.{table_fits, pages_of}
use Rattle.pages.specs.declared.Small.{Small}
use Rattle.wellformed.specs.WellFormed.{well_formed}
use Rattle.wide.specs.Wide.{as_given}
use Rattle.wide.specs.declared.WideBox.{WideBox}
use Rattle.counter.specs.Counter.{calls_of, gust_says, ask_says, answer_to, box_max_says, after_all, book_after, line_end, with_byte, lines_of, served, book_served, calls_in, Counter, opening, kept, ended, longer, by_byte, fed, finished_by, finished, written, whole, left_by, answers_to, all_written}

-- However the input is cut, its chunks come to the whole.
pub fed_append : (xs ys : List ℕ) (c : Counter) → fed (xs ++ ys) c ≡ fed ys (fed xs c)
unfolding fed
fed_append [] ys c = refl
fed_append (x ∷ xs) ys c = fed_append xs ys (by_byte (eqb x line_end) x c)

-- what is kept of a line is read as the whole line, and goes on as it does
pub parsed_kept : (l : List ℕ) → parsed (kept l) ≡ parsed l
parsed_kept l =
    ⊎_elim
    (λ (h : length l < longest_line + 1). ap parsed (take_all (longest_line + 1) l (omega arith)))
    (λ (h : longest_line + 1 ≤ length l). long_refused (kept l) (omega (arith, length-take (longest_line + 1) l)) ∙ sym (long_refused l (omega arith)))
    (below_or_not (length l) (longest_line + 1))

pub kept_on : (l bytes : List ℕ) → kept (kept l ++ bytes) ≡ kept (l ++ bytes)
kept_on l bytes =
    ⊎_elim
    (λ (h : length l < longest_line + 1). ap (λ (x : List ℕ). kept (x ++ bytes)) (take_all (longest_line + 1) l (omega arith)))
    (λ (h : longest_line + 1 ≤ length l).
    take-append-le (longest_line + 1) (kept l) bytes (omega (arith, length-take (longest_line + 1) l))
    ∙ take-take (longest_line + 1) (longest_line + 1) l (omega arith)
    ∙ sym (take-append-le (longest_line + 1) l bytes h))
    (below_or_not (length l) (longest_line + 1))

-- a line that has begun, before the lines of what follows
joined : List ℕ → List (List ℕ) → List (List ℕ)
joined l (x ∷ xs) = (l ++ x) ∷ xs
joined [] [] = []
joined (a ∷ l) [] = (a ∷ l) ∷ []

joined_none : (ls : List (List ℕ)) → joined [] ls ≡ ls
unfolding joined
joined_none [] = refl
joined_none (l ∷ ls) = refl

joined_byte : (l : List ℕ) (b : ℕ) (ls : List (List ℕ)) → joined l (with_byte false b ls) ≡ joined (l ++ (b ∷ [])) ls
unfolding joined with_byte
joined_byte [] b [] = refl
joined_byte (a ∷ l) b [] = refl
joined_byte l b (x ∷ xs) = ap (λ (y : List ℕ). y ∷ xs) (sym (append_assoc l (b ∷ []) x))

at_end : List (List ℕ) → Book → List ℕ → Counter
at_end ls k o = record { book = book_served ls k; line = []; out = o ++ served ls k }

Ends : List ℕ → Type 0
Ends bs = (l : List ℕ) (k : Book) (o : List ℕ) → finished (fed bs (record { book = k; line = kept l; out = o })) ≡ at_end (joined l (lines_of bs)) k o

ends_none : Ends []
unfolding Ends fed finished_by joined lines_of served book_served at_end ended
ends_none [] k o = λ i. record { book = k; line = []; out = sym (append-nil o) i }
ends_none (a ∷ l) k o = rw (parsed_kept (a ∷ l), append-nil (printed (answer_to (parsed (a ∷ l)) k)))

ends_byte : (bs : List ℕ) → Ends bs → (t : Bool) (b : ℕ) (l : List ℕ) (k : Book) (o : List ℕ) → finished (fed bs (by_byte t b (record { book = k; line = kept l; out = o }))) ≡ at_end (joined l (with_byte t b (lines_of bs))) k o
unfolding Ends at_end by_byte ended with_byte joined served book_served longer
ends_byte bs more true b l k o =
    let said = printed (answer_to (parsed l) k) in
    let next = book_after (parsed l) k in
    rw (parsed_kept l, append-nil l)
    (more [] next (o ++ said)
    ∙ ap (λ ls. at_end ls next (o ++ said)) (joined_none (lines_of bs))
    ∙ (λ i. record { book = book_served (lines_of bs) next; line = []; out = append_assoc o said (served (lines_of bs) next) i }))
ends_byte bs more false b l k o =
    rw (kept_on l (b ∷ []), joined_byte l b (lines_of bs)) (more (l ++ (b ∷ [])) k o)

ends : (bs : List ℕ) → Ends bs
unfolding Ends fed lines_of
ends [] = ends_none
ends (b ∷ bs) = λ l k o. ends_byte bs (ends bs) (eqb b line_end) b l k o

-- The whole output is the answers line by line, whatever the chunks were; and so is the book that is left.
pub line_by_line : (input : List ℕ) (k : Book) → finished (fed input (opening k)) ≡ record { book = book_served (lines_of input) k; line = []; out = served (lines_of input) k }
unfolding at_end Ends
line_by_line input k = ends input [] k [] ∙ ap (λ ls. at_end ls k []) (joined_none (lines_of input))

-- what was printed before stands before what is printed now
behind : List ℕ → Counter → Counter
behind o c = record { book = c.book; line = c.line; out = o ++ c.out }

ended_behind : (o : List ℕ) (c : Counter) → ended (behind o c) ≡ behind o (ended c)
unfolding behind ended
ended_behind o c =
    let l = parsed c.line in
    λ i. record { book = book_after l c.book; line = []; out = append_assoc o c.out (printed (answer_to l c.book)) i }

fed_behind : (bs o : List ℕ) (c : Counter) → fed bs (behind o c) ≡ behind o (fed bs c)
unfolding fed behind by_byte longer
fed_behind [] o c = refl
fed_behind (b ∷ bs) o c = by_test (eqb b line_end) (λ x. fed_behind bs o x)
  where
    by_test : (t : Bool) → ((x : Counter) → fed bs (behind o x) ≡ behind o (fed bs x)) → fed bs (by_byte t b (behind o c)) ≡ behind o (fed bs (by_byte t b c))
    by_test true more = ap (fed bs) (ended_behind o c) ∙ more (ended c)
    by_test false more = more (longer (b ∷ []) c)

finished_behind : (l o : List ℕ) (c : Counter) → finished_by l (behind o c) ≡ behind o (finished_by l c)
unfolding finished_by behind
finished_behind [] o c = refl
finished_behind (b ∷ l) o c = ended_behind o c

-- fed chunk by chunk, the answers of all stand before what the last one leaves
chunk_by_chunk : (chunks : List (List ℕ)) (c : Counter) → fed (whole chunks) c ≡ behind (answers_to chunks c) (left_by chunks c)
unfolding answers_to left_by whole behind fed
chunk_by_chunk [] c = refl
chunk_by_chunk (chunk ∷ chunks) c =
    let d = fed chunk c in
    let same : d ≡ behind d.out (written d) = λ i. record { book = d.book; line = d.line; out = sym (append-nil d.out) i } in
    let rest = left_by chunks (written d) in
    fed_append chunk (whole chunks) c
    ∙ ap (fed (whole chunks)) same
    ∙ fed_behind (whole chunks) d.out (written d)
    ∙ ap (behind d.out) (chunk_by_chunk chunks (written d))
    ∙ (λ i. record { book = rest.book; line = rest.line; out = sym (append_assoc d.out (answers_to chunks (written d)) rest.out) i })

chunks_whole : (chunks : List (List ℕ)) (c : Counter) → finished (fed (whole chunks) c) ≡ behind (answers_to chunks c) (finished (left_by chunks c))
unfolding behind
chunks_whole chunks c = ap (λ (x : Counter). finished x) (chunk_by_chunk chunks c) ∙ finished_behind (left_by chunks c).line (answers_to chunks c) (left_by chunks c)

-- All that is written is a function of the whole input, whatever its chunks: the answers to its lines, in order; and so is the book that is left.
pub whatever_chunks : (chunks : List (List ℕ)) (k : Book) → all_written chunks (opening k) ≡ served (lines_of (whole chunks)) k
unfolding behind
whatever_chunks chunks k = ap (λ (x : Counter). x.out) (sym (chunks_whole chunks (opening k)) ∙ line_by_line (whole chunks) k)

pub whatever_chunks_book : (chunks : List (List ℕ)) (k : Book) → (finished (left_by chunks (opening k))).book ≡ book_served (lines_of (whole chunks)) k
unfolding behind
whatever_chunks_book chunks k = ap (λ (x : Counter). x.book) (sym (chunks_whole chunks (opening k)) ∙ line_by_line (whole chunks) k)

-- one more chunk
pub left_by_more : (chunks : List (List ℕ)) (chunk : List ℕ) (c : Counter) → left_by (chunks ++ (chunk ∷ [])) c ≡ written (fed chunk (left_by chunks c))
unfolding left_by
left_by_more [] chunk c = refl
left_by_more (x ∷ chunks) chunk c = left_by_more chunks chunk (written (fed x c))

pub answers_to_more : (chunks : List (List ℕ)) (chunk : List ℕ) (c : Counter) → answers_to (chunks ++ (chunk ∷ [])) c ≡ answers_to chunks c ++ (fed chunk (left_by chunks c)).out
unfolding answers_to left_by
answers_to_more [] chunk c = append-nil (fed chunk c).out
answers_to_more (x ∷ chunks) chunk c =
    let d = fed x c in
    ap (λ (l : List ℕ). d.out ++ l) (answers_to_more chunks chunk (written d))
    ∙ sym (append_assoc d.out (answers_to chunks (written d)) (fed chunk (left_by chunks (written d))).out)

-- the book is that of a run of the lines' calls
after_append : (xs ys : List Call) (k : Book) → after_all (xs ++ ys) k ≡ after_all ys (after_all xs k)
unfolding after_all
after_append [] ys k = refl
after_append (x ∷ xs) ys k = after_append xs ys (after x k)

run_book : (cs : List Call) (m : Moment) → (run cs m).book ≡ after_all cs m.book
unfolding run after_all
run_book [] m = refl
run_book (c ∷ cs) m = run_book cs (turn c m)

served_calls : (ls : List (List ℕ)) (k : Book) → book_served ls k ≡ after_all (calls_in ls) k
unfolding book_served calls_in after_all
served_calls [] k = refl
served_calls (l ∷ ls) k = served_calls ls (book_after (parsed l) k) ∙ sym (after_append (calls_of (parsed l)) (calls_in ls) k)

-- a question that is not refused is answered by its box-max
Answered : Result Asked Refusal → Type 0
Answered a = (says a).refusal ≡ 0 → ask_says a ≡ Ok (box_max_says (says a).best (says a).pages)

asked_answered : (t : List ℕ) (s : Small) (q : Box) → Answered (asked t s q)
unfolding Answered asked answered ask_says gust_says box_max_says
asked_answered t s q = by_tests (table_fits t) (legal q) (search_book (pages_of t) s q)
  where
    by_search : (x : Search) → Answered (answered x)
    by_search refused e = absurd (not_none no.Damaged e)
    by_search (found zero pages) e = refl
    by_search (found (suc gust) pages) e = ap (λ (n : ℕ). Ok (box_max_says n pages)) (sym (add-one gust))

    by_tests : (b c : Bool) (x : Search) → Answered (cond b (cond c (answered x) (Err no.Box)) (Err no.Table))
    by_tests false c x e = absurd (not_none no.Table e)
    by_tests true false x e = absurd (not_none no.Box e)
    by_tests true true x e = by_search x e

-- A legal question at a moment of a run is answered by the box-max over the full list: the strongest gust of all records typed and accepted before it that touch it, or nothing, exactly if none does.
pub record FullList (q : WideBox) (m : Moment) : Type 0 where
  pub pages : ℕ
  pub says_best : answer_to (Ok (typed.Ask q)) m.book ≡ Ok (box_max_says (box_max (as_given q) m.list) pages)
  pub nothing : (box_max (as_given q) m.list ≡ 0) ↔ All (λ e. touches (as_given q) e.place ≡ false) m.list

full_list : (q : WideBox) (m : Moment) → Good m → legal (as_given q) ≡ true → FullList q m
unfolding answer_to Answered
full_list q m g lawful =
    let h = g.answers (as_given q) lawful in
    let a = asked m.book.table m.book.small (as_given q) in
    record {
      pages = (says a).pages;
      says_best = asked_answered m.book.table m.book.small (as_given q) h.never_refused ∙ ap (λ (n : ℕ). Ok (box_max_says n (says a).pages)) h.best;
      nothing = (λ e. h.nothing.0 (h.best ∙ e), λ n. sym h.best ∙ h.nothing.1 n);
    }

-- One of the lines, whatever stands before and after it: its answer stands behind those of the lines before it, and it is that of the book which they left.
-- That book is well-formed, and a legal question is answered by the full list.
pub record LineGood (before : List (List ℕ)) (l : List ℕ) (later : List (List ℕ)) (k : Book) (m : Moment) : Type 0 where
  pub stands : served (before ++ (l ∷ later)) k ≡ served before k ++ (printed (answer_to (parsed l) m.book) ++ served later (book_after (parsed l) m.book))
  pub good : Good m
  pub question : (q : WideBox) → parsed l ≡ Ok (typed.Ask q) → legal (as_given q) ≡ true → FullList q m

served_append : (before later : List (List ℕ)) (k : Book) → served (before ++ later) k ≡ served before k ++ served later (book_served before k)
unfolding served book_served
served_append [] later k = refl
served_append (l ∷ before) later k =
    let said = printed (answer_to (parsed l) k) in
    let next = book_after (parsed l) k in
    ap (λ (x : List ℕ). said ++ x) (served_append before later next) ∙ sym (append_assoc said (served before next) (served later (book_served before next)))

-- the moment after lines, from the empty book and the empty list
abbrev pub moment_after : List (List ℕ) → List ℕ → Moment
moment_after ls t = run (calls_in ls) (record { book = record { table = empty_table t; small = empty_small }; list = [] })

moment_book : (ls : List (List ℕ)) (t : List ℕ) → book_served ls (record { table = empty_table t; small = empty_small }) ≡ (moment_after ls t).book
moment_book ls t =
    let k : Book = record { table = empty_table t; small = empty_small } in
    served_calls ls k ∙ sym (run_book (calls_in ls) (record { book = k; list = [] }))

line_good : (before : List (List ℕ)) (l : List ℕ) (later : List (List ℕ)) (t : List ℕ) → table_fits t ≡ true → LineGood before l later (record { table = empty_table t; small = empty_small }) (moment_after before t)
unfolding served
line_good before l later t e =
    let k : Book = record { table = empty_table t; small = empty_small } in
    let g = (any_run_from_empty (calls_in before) t e).last in
    record {
      stands = served_append before (l ∷ later) k ∙ ap (λ (b : Book). served before k ++ served (l ∷ later) b) (moment_book before t);
      good = g;
      question = λ q asks lawful. full_list q (moment_after before t) g lawful;
    }

-- Whatever is typed: each line is answered so, and the book that all lines leave answers each legal question as the full list of the records typed and accepted does.
pub lines_good :
    (input t : List ℕ) → table_fits t ≡ true
    → let k : Book = record { table = empty_table t; small = empty_small } in let m = moment_after (lines_of input) t in
    ((before : List (List ℕ)) (l : List ℕ) (later : List (List ℕ)) → lines_of input ≡ before ++ (l ∷ later) → LineGood before l later k (moment_after before t))
    × ((finished (fed input (opening k))).book ≡ m.book)
    × Good m
lines_good input t e = (
  (λ before l later same. line_good before l later t e),
  ap (λ c. c.book) (line_by_line input (record { table = empty_table t; small = empty_small })) ∙ moment_book (lines_of input) t,
  (any_run_from_empty (calls_in (lines_of input)) t e).last,
)

-- a line leaves a well-formed book well-formed
pub line_sound : (l : Result Line Refusal) (k : Book) → well_formed k.table k.small ≡ true → well_formed (book_after l k).table (book_after l k).small ≡ true
line_sound l k w =
    subst (λ (x : Book). well_formed x.table x.small ≡ true) (run_book (calls_of l) (record { book = k; list = held k })) (any_run (calls_of l) k w).last.well_formed_lem
