-- A counter program's turns: each reads once, has what came served, and hands the answers to the writer before anything else is read.
use Rattle.std.specs.Prelude.{ℕ, ◌*◌, ◌≤◌, Bool, true, false, List, [], ◌∷◌, ◌++◌, ◌≡◌, length, take, Option, Some, None}
use Rattle.std.specs.Option.{unwrap_or}
use Rattle.counter.specs.Counter.{lines_of, served, book_served, Counter, fed, whole, left_by, answers_to}
use Rattle.counter.specs.FeedSteps.{counter_of, Ready, Shows}
use Rattle.counter.specs.declared.State.{State}
use Rattle.index.specs.Run.{Book}
use Rattle.lines.specs.Printing.{longest_answer}
use Rattle.pages.specs.Free.{empty_small, empty_table}
use Rattle.pages.specs.Layout.{table_fits}
use Rattle.serving.specs.Outside.{Happened, TookNone}
use Rattle.serving.specs.declared.Ending.{Ending}
use Rattle.serving.specs.declared.Ending.TheVariants.{InputEnded, ReadFailed, NotWritten, TurnsSpent}

-- Before the first turn: a table of pages, room for a chunk of some bytes, and for the answers to it.
pub record MayServe (t input out : List ℕ) : Type 0 where
  pub fits : table_fits t ≡ true
  pub some : 1 ≤ length input
  pub room : longest_answer * length input ≤ length out

-- A read: the bytes that it left at the start of the buffer came in, none if it failed.
pub record CameIn (input : List ℕ) (r : Option ℕ) : Type 0 where
  pub within : unwrap_or r 0 ≤ length input
  pub happened : Happened (take (unwrap_or r 0) input ∷ []) []

-- A write: the writer was offered these bytes, and took the first so many.
pub record Took (bytes : List ℕ) (count : ℕ) : Type 0 where
  pub within : count ≤ length bytes
  pub happened : Happened [] (take count bytes)
  pub none : count ≡ 0 → 1 ≤ length bytes → TookNone bytes

-- Bytes given to the writer, in order: it took the first; the rest is still to be offered.
pub record Handing (bytes rest : List ℕ) : Type 0 where
  pub handed : List ℕ
  pub in_order_lem : handed ++ rest ≡ bytes
  pub happened : Happened [] handed

-- Whether the writer took them all. If not, it was offered the rest too.
pub record HandedOver (bytes : List ℕ) (all : Bool) : Type 0 where
  pub rest : List ℕ
  pub taken : Handing bytes rest
  pub no_rest : all ≡ true → rest ≡ []
  pub stopped : all ≡ false → TookNone rest

-- Whether the writer took all answers when the turns end so.
abbrev pub all_handed : Ending → Bool
all_handed InputEnded = true
all_handed ReadFailed = true
all_handed NotWritten = false
all_handed TurnsSpent = true

-- Whether they end because a read left nothing.
abbrev pub read_out : Ending → Bool
read_out InputEnded = true
read_out ReadFailed = true
read_out NotWritten = false
read_out TurnsSpent = false

-- The same of a turn, by how the turns end if it is the last.
abbrev pub all_by : Option Ending → Bool
all_by None = true
all_by (Some ending) = all_handed ending

abbrev pub out_by : Option Ending → Bool
out_by None = false
out_by (Some ending) = read_out ending

-- A turn: table, buffer and state are those of the counter fed with the chunk that came in, every word and byte;
-- and of the answers to it the writer took the first so many, all of them unless the turns end so.
pub record Turned (c : Counter) (first input t out : List ℕ) (s : State) (ending : Option Ending) : Type 0 where
  pub came : ℕ
  pub rest : List ℕ
  pub within : came ≤ length input
  pub shows : Shows (fed (take came input) c) first t out s
  pub handed : List ℕ
  pub in_order_lem : handed ++ rest ≡ (fed (take came input) c).out
  pub happened : Happened (take came input ∷ []) handed
  pub no_rest : all_by ending ≡ true → rest ≡ []
  pub stopped : all_by ending ≡ false → TookNone rest
  pub ends : out_by ending ≡ true → came ≡ 0

-- The last read left nothing, as it does at the input's end and where it fails.
pub record EndsEmpty (chunks : List (List ℕ)) : Type 0 where
  pub before : List (List ℕ)
  pub last_empty : chunks ≡ before ++ ([] ∷ [])

-- Turns: chunks came in, one a turn; what is left is what they leave; the writer took the answers to them in order, and all of them or those before the rest.
pub record Served (c : Counter) (n : ℕ) (t out : List ℕ) (s : State) (all to_end : Bool) : Type 0 where
  pub chunks : List (List ℕ)
  pub handed : List ℕ
  pub rest : List ℕ
  pub happened : Happened chunks handed
  pub left : counter_of t out s ≡ left_by chunks c
  pub in_order_lem : handed ++ rest ≡ answers_to chunks c
  pub no_rest : all ≡ true → rest ≡ []
  pub stopped : all ≡ false → TookNone rest
  pub ends : to_end ≡ true → EndsEmpty chunks
  pub ready : Ready n t out s

-- The last answer, which is kept back if an earlier one was not taken.
pub record LastHanded (e : Ending) (bytes : List ℕ) (r : Ending) : Type 0 where
  pub handed : List ℕ
  pub rest : List ℕ
  pub happened : Happened [] handed
  pub in_order_lem : handed ++ rest ≡ bytes
  pub kept_back : all_handed e ≡ false → handed ≡ []
  pub no_rest : all_handed r ≡ true → (all_handed e ≡ true) × (rest ≡ [])
  pub stopped : all_handed e ≡ true → all_handed r ≡ false → TookNone rest
  pub same_end : read_out r ≡ true → read_out e ≡ true

-- The empty book on a table.
abbrev pub emptied : List ℕ → Book
emptied t = record { table = empty_table t; small = empty_small }

-- Of what is missing the writer was offered the first bytes, and took none of them.
pub record Offered (rest : List ℕ) : Type 0 where
  pub first : List ℕ
  pub more : List ℕ
  pub is : rest ≡ first ++ more
  pub took_none : TookNone first

-- A whole run, on a table that it clears: all that the writer took is, byte for byte, the answers to the lines of all that was read, in order;
-- nothing is missing at their end unless the writer took no more, and it was read until a read left nothing; and the table holds the book that those lines leave.
pub record Ran (t u : List ℕ) (r : Ending) : Type 0 where
  pub chunks : List (List ℕ)
  pub handed : List ℕ
  pub rest : List ℕ
  pub happened : Happened chunks handed
  pub answers : handed ++ rest ≡ served (lines_of (whole chunks)) (emptied t)
  pub no_rest : all_handed r ≡ true → rest ≡ []
  pub stopped : all_handed r ≡ false → Offered rest
  pub ends : read_out r ≡ true → EndsEmpty chunks
  pub book : u ≡ (book_served (lines_of (whole chunks)) (emptied t)).table
