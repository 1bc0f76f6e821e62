-- Any run of calls: each call with its reply, and the book beside the full list of accepted records.
use Rattle.std.specs.Prelude.{ℕ, ◌+◌, ◌≤◌, true, false, cond, List, [], ◌∷◌, ◌↔◌, ◌≡◌, eqb}
use Rattle.asking.specs.Asking.{Said, asked, says}
use Rattle.asking.specs.ExactEntries.{All}
use Rattle.asking.specs.BoxMax.{box_max, touching_pages, other_pages}
use Rattle.ground.specs.Boxes.{touches, legal}
use Rattle.ground.specs.declared.boxes.Box.{Box}
use Rattle.image.specs.Image.{table_of as image_table}
use Rattle.pages.specs.Layout.{table_fits, pages_of}
use Rattle.pages.specs.declared.Entry.{Entry}
use Rattle.pages.specs.declared.Small.{Small}
use Rattle.wellformed.specs.WellFormed.{held_records, well_formed}
use Rattle.rules.specs.Record.{Reply, refusal, record_into}
use Rattle.rules.specs.Recording.{leaf_entry}
use Rattle.split.specs.SplitLaws.{Each}
use Rattle.index.specs.Calls.{CountSaid, Saved, cleared, count_answer, saved, loaded, image_small}

-- Rules 1.1, 1.2, 1.3: a call with its arguments: any box, gust, image and buffer.
pub data Call : Type 0 where
  Clear : Call
  Record : Box → ℕ → Call
  Ask : Box → Call
  Count : Call
  Save : List ℕ → Call
  Load : List ℕ → Call

-- Rule 2.1: the book: its table and small record.
pub record Book : Type 0 where
  pub table : List ℕ
  pub small : Small

-- What each call leaves. Asking, counting and saving leave the book as it was.
abbrev pub after : Call → Book → Book
after Clear b = let r = cleared b.table b.small in record { table = r.table; small = r.small }
after (Record x v) b = let r = record_into b.table b.small x v in record { table = r.table; small = r.small }
after (Ask q) b = b
after Count b = b
after (Save out) b = b
after (Load image) b = let r = loaded image b.table b.small in record { table = r.table; small = r.small }

-- What each call replies, in the rules' numbers and values. Clearing and loading tell the refusal's number, 0 for none.
pub data Told : Type 0 where
  ToClear : ℕ → Told
  ToRecord : Reply → Told
  ToAsk : Said → Told
  ToCount : CountSaid → Told
  ToSave : Saved → Told
  ToLoad : ℕ → Told

abbrev pub reply_to : Call → Book → Told
reply_to Clear b = ToClear (cleared b.table b.small).refusal
reply_to (Record x v) b = ToRecord (record_into b.table b.small x v).reply
reply_to (Ask q) b = ToAsk (says (asked b.table b.small q))
reply_to Count b = ToCount (count_answer b.table b.small)
reply_to (Save out) b = ToSave (saved b.table b.small out)
reply_to (Load image) b = ToLoad (loaded image b.table b.small).refusal

-- The records that a book holds.
abbrev pub held : Book → List Entry
held b = held_records (pages_of b.table) b.small

-- Rule 11.2: the full list beside it: a record that is accepted is added, its box as handed in; clearing, unless refused, and a load refused with 4 empty it; a load that succeeds replaces it by the records of its pages.
abbrev pub list_after : Call → Book → List Entry → List Entry
list_after Clear b l = cond (table_fits b.table) [] l
list_after (Record x v) b l = cond (eqb (refusal b.table b.small x v) 0) (leaf_entry x v ∷ l) l
list_after (Ask q) b l = l
list_after Count b l = l
list_after (Save out) b l = l
list_after (Load image) b l =
    let r = loaded image b.table b.small in
    cond (eqb r.refusal 0) (held (record { table = image_table image; small = image_small image })) (cond (eqb r.refusal 4) [] l)

-- A book with its full list, and a run of calls.
pub record Moment : Type 0 where
  pub book : Book
  pub list : List Entry

abbrev pub turn : Call → Moment → Moment
turn c m = record { book = after c m.book; list = list_after c m.book m.list }

unfoldable pub run : List Call → Moment → Moment
run [] m = m
run (c ∷ cs) m = run cs (turn c m)

-- The calls of a run in order: what each found, and what it replied.
pub record Made : Type 0 where
  pub call : Call
  pub found : Moment
  pub reply : Told

unfoldable pub made : List Call → Moment → List Made
made [] m = []
made (c ∷ cs) m = record { call = c; found = m; reply = reply_to c m.book } ∷ made cs (turn c m)

-- Rule 11.3: what the answer to a legal question has to say: what a plain pass over the full list gives, Nothing exactly if no record touches. It is never refused, and opens at most the root and the other pages whose boxes touch.
pub record Answers (b : Book) (l : List Entry) (q : Box) (said : Said) : Type 0 where
  pub never_refused : said.refusal ≡ 0
  pub best : said.best ≡ box_max q l
  pub nothing : (said.best ≡ 0) ↔ All (λ e. touches q e.place ≡ false) l
  pub pages : said.pages ≤ 1 + touching_pages (pages_of b.table) q (other_pages (pages_of b.table) b.small)

-- Rule 11.3: what holds at every moment of a run: the book is well-formed, and any legal question would be answered so.
pub record Good (m : Moment) : Type 0 where
  pub well_formed_lem : well_formed m.book.table m.book.small ≡ true
  pub answers : (q : Box) → legal q ≡ true → Answers m.book m.list q (says (asked m.book.table m.book.small q))

-- The reply to a question that a call of the run asked.
pub record Replied (m : Moment) (q : Box) (reply : Told) : Type 0 where
  pub said : Said
  pub told : reply ≡ ToAsk said
  pub right : Answers m.book m.list q said

-- What holds at a call of a run: what it found is good, and if it is a legal question, its reply is what the full list gives at that moment.
pub record GoodCall (x : Made) : Type 0 where
  pub found_good : Good x.found
  pub question : (q : Box) → x.call ≡ Ask q → legal q ≡ true → Replied x.found q x.reply

-- What holds of a whole run: every call, with its reply, and what the last one left.
pub record GoodRun (cs : List Call) (m : Moment) : Type 0 where
  pub calls : Each GoodCall (made cs m)
  pub last : Good (run cs m)
