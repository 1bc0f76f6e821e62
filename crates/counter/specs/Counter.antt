-- RULES.md, section 8: every line is answered by the book, and the answers are printed in order.
use Rattle.std.specs.Prelude.{ℕ, zero, suc, ◌+◌, Bool, true, false, List, [], ◌∷◌, ◌++◌, eqb, take, Option, Some, None, Result, Ok, Err}
use Rattle.asking.specs.Asking.{asked}
use Rattle.asking.specs.declared.Asked.{Asked}
use Rattle.ground.specs.Refusals.{number}
use Rattle.ground.specs.declared.refusals.Refusal.{Refusal}
use Rattle.index.specs.Calls.{counted}
use Rattle.index.specs.Run.{Call, Call.Record, Call.Ask, Call.Count, Book, after}
use Rattle.index.specs.declared.Counts.{Counts}
use Rattle.lines.specs.Lines.{parsed, longest_line}
use Rattle.wide.specs.Wide.{as_given}
use Rattle.lines.specs.Printing.{printed}
use Rattle.lines.specs.declared.printing.Answer.{Answer}
use Rattle.lines.specs.declared.printing.Answer.TheVariants as told
use Rattle.lines.specs.declared.reading.Line.{Line}
use Rattle.lines.specs.declared.reading.Line.TheVariants as typed
use Rattle.rules.specs.Record.{Reply, Reply.Refused, Reply.Answered, record_into}
use Rattle.rules.specs.Recording.{Outcome, Outcome.Kept, Outcome.Cut, Outcome.Covered}

-- Rules 8.7, 8.8, 8.9, 8.11: the call that a line is, with the numbers as they were typed. A line of none of the forms is no call.
unfoldable pub calls_of : Result Line Refusal → List Call
calls_of (Ok (typed.Add b v)) = Record (as_given b) v ∷ []
calls_of (Ok (typed.Ask q)) = Ask (as_given q) ∷ []
calls_of (Ok typed.Count) = Count ∷ []
calls_of (Err refusal) = []

-- Rule 8.21: what the book's answers are called when they are printed. Refusals are printed alike, by their numbers.
unfoldable pub outcome_says : Outcome → ℕ → Answer
outcome_says Kept struck = told.Kept struck
outcome_says Cut struck = told.Cut struck
outcome_says Covered struck = told.Covered struck

-- Rules 8.21, 8.24.
unfoldable pub record_says : Reply → Result Answer ℕ
record_says (Refused n) = Err n
record_says (Answered a) = Ok (outcome_says a.outcome a.struck)

-- Rules 8.22, 8.24.
unfoldable pub gust_says : Option ℕ → ℕ → Answer
gust_says None pages = told.Nothing pages
gust_says (Some gust) pages = told.Gust gust pages

unfoldable pub ask_says : Result Asked Refusal → Result Answer ℕ
ask_says (Err refusal) = Err (number refusal)
ask_says (Ok asked) = Ok (gust_says asked.gust asked.pages)

-- Rules 8.23, 8.24.
unfoldable pub count_says : Result Counts Refusal → Result Answer ℕ
count_says (Err refusal) = Err (number refusal)
count_says (Ok n) = Ok (told.Counts n.accepted n.held n.struck n.covered)

-- Rules 8.10, 7.9: the answer to a line on a book; a line of none of the forms is refused by 9.
unfoldable pub answer_to : Result Line Refusal → Book → Result Answer ℕ
answer_to (Ok (typed.Add b v)) k = record_says (record_into k.table k.small (as_given b) v).reply
answer_to (Ok (typed.Ask q)) k = ask_says (asked k.table k.small (as_given q))
answer_to (Ok typed.Count) k = count_says (counted k.table k.small)
answer_to (Err refusal) k = Err (number refusal)

-- What is printed to a question whose box-max over a list of records is known: 0 is nothing, v + 1 a gust v.
unfoldable pub box_max_says : ℕ → ℕ → Answer
box_max_says zero pages = told.Nothing pages
box_max_says (suc gust) pages = told.Gust gust pages

-- The book after a line: what its call leaves.
unfoldable pub after_all : List Call → Book → Book
after_all [] k = k
after_all (c ∷ cs) k = after_all cs (after c k)

abbrev pub book_after : Result Line Refusal → Book → Book
book_after l k = after_all (calls_of l) k

-- Rule 8.2: the whole input, line by line. A line ends with byte 10, which the last may lack.
abbrev pub line_end : ℕ
line_end = 10

unfoldable pub with_byte : Bool → ℕ → List (List ℕ) → List (List ℕ)
with_byte true b ls = [] ∷ ls
with_byte false b [] = (b ∷ []) ∷ []
with_byte false b (l ∷ ls) = (b ∷ l) ∷ ls

-- Rule 8.2.
unfoldable pub lines_of : List ℕ → List (List ℕ)
lines_of [] = []
lines_of (b ∷ bs) = with_byte (eqb b line_end) b (lines_of bs)

-- Rule 8.20: the whole output: the answers in order, each on the book that the lines before it left.
unfoldable pub served : List (List ℕ) → Book → List ℕ
served [] k = []
served (l ∷ ls) k = printed (answer_to (parsed l) k) ++ served ls (book_after (parsed l) k)

-- The book that the lines leave, and the calls that they are.
unfoldable pub book_served : List (List ℕ) → Book → Book
book_served [] k = k
book_served (l ∷ ls) k = book_served ls (book_after (parsed l) k)

unfoldable pub calls_in : List (List ℕ) → List Call
calls_in [] = []
calls_in (l ∷ ls) = calls_of (parsed l) ++ calls_in ls

-- Between two bytes of the input: the book, the line so far, and what is printed so far.
pub record Counter : Type 0 where
  pub book : Book
  pub line : List ℕ
  pub out : List ℕ

-- At first: a book, and a line that has not begun.
abbrev pub opening : Book → Counter
opening k = record { book = k; line = []; out = [] }

-- Rules 8.3, 8.10: a line that is too long stays so: one byte more than the longest line is all that is kept of it.
abbrev pub kept : List ℕ → List ℕ
kept line = take (longest_line + 1) line

-- The line ends: its answer is printed, and the next line begins.
unfoldable pub ended : Counter → Counter
ended c = let l = parsed c.line in record { book = book_after l c.book; line = []; out = c.out ++ printed (answer_to l c.book) }

unfoldable pub longer : List ℕ → Counter → Counter
longer bytes c = record { book = c.book; line = kept (c.line ++ bytes); out = c.out }

-- One byte of the input: byte 10 ends the line, any other belongs to it.
unfoldable pub by_byte : Bool → ℕ → Counter → Counter
by_byte true b c = ended c
by_byte false b c = longer (b ∷ []) c

-- The input, byte by byte.
unfoldable pub fed : List ℕ → Counter → Counter
fed [] c = c
fed (b ∷ bs) c = fed bs (by_byte (eqb b line_end) b c)

-- Rule 8.2: the input's end ends a line that has begun.
unfoldable pub finished_by : List ℕ → Counter → Counter
finished_by [] c = c
finished_by (b ∷ bs) c = ended c

abbrev pub finished : Counter → Counter
finished c = finished_by c.line c

-- Input comes in chunks, cut anywhere. After each, what it printed is written.
abbrev pub written : Counter → Counter
written c = record { book = c.book; line = c.line; out = [] }

unfoldable pub whole : List (List ℕ) → List ℕ
whole [] = []
whole (chunk ∷ chunks) = chunk ++ whole chunks

-- What the chunks leave, and the answers that were written, in order.
unfoldable pub left_by : List (List ℕ) → Counter → Counter
left_by [] c = c
left_by (chunk ∷ chunks) c = left_by chunks (written (fed chunk c))

unfoldable pub answers_to : List (List ℕ) → Counter → List ℕ
answers_to [] c = []
answers_to (chunk ∷ chunks) c = let d = fed chunk c in d.out ++ answers_to chunks (written d)

-- After the last chunk a line that has begun is ended, and its answer written.
abbrev pub all_written : List (List ℕ) → Counter → List ℕ
all_written chunks c = answers_to chunks c ++ (finished (left_by chunks c)).out
