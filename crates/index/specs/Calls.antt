-- RULES.md, section 7: clearing, counting, saving and loading.
use Rattle.std.specs.Prelude.{Some, None, Option, Ok, Err, Result, ℕ, ◌*◌, not, cond, List, eqb, length}
use Rattle.ground.specs.Refusals.{number}
use Rattle.ground.specs.declared.refusals.Refusal.{Refusal}
use Rattle.ground.specs.declared.refusals.Refusal.TheVariants as no
use Rattle.image.specs.Image.{image_form, image_length, image_of, image_pages, trailer_of, trailer_good, small_of, table_of as image_table}
use Rattle.pages.specs.Free.{empty_table, empty_small}
use Rattle.pages.specs.Layout.{page_words, pages_in, table_fits, pages_of}
use Rattle.pages.specs.declared.Small.{Small}
use Rattle.wellformed.specs.WellFormed.{held_records, well_formed}
use Rattle.rules.specs.Record.{first_of}
use Rattle.index.specs.declared.Counts.{Counts}

-- What clearing and loading leave: the refusal's number, 0 for none, the table and the small record.
pub record Left : Type 0 where
  pub refusal : ℕ
  pub table : List ℕ
  pub small : Small

-- Rules 7.31, 7.32: a refusal returns its number, and all stays unchanged.
abbrev pub unchanged : ℕ → List ℕ → Small → Left
unchanged n t s = record { refusal = n; table = t; small = s }

-- Rules 2.33, 7.33: clearing makes the empty book, and loading that ends in 4 leaves it.
abbrev pub empty_book : ℕ → List ℕ → Left
empty_book n t = record { refusal = n; table = empty_table t; small = empty_small }

-- Rule 7.26: clearing gives 1.
unfoldable pub cleared : List ℕ → Small → Left
cleared t s = cond (table_fits t) (empty_book 0 t) (unchanged 1 t s)

-- Rules 1.4, 7.23: counting: 1, 4. The answer is a refusal's number, or the four numbers: accepted, held, struck, covered.
pub data CountSaid : Type 0 where
  NotCounted : ℕ → CountSaid
  Numbers : ℕ → ℕ → ℕ → ℕ → CountSaid

abbrev pub numbers_of : List ℕ → Small → CountSaid
numbers_of t s = Numbers s.accepted (length (held_records (pages_of t) s)) s.struck s.covered

abbrev pub count_answer : List ℕ → Small → CountSaid
count_answer t s = cond (table_fits t) (cond (well_formed t s) (numbers_of t s) (NotCounted 4)) (NotCounted 1)

-- The number and the values of each case of the code's answer.
abbrev pub count_says : Result Counts Refusal → CountSaid
count_says (Err refusal) = NotCounted (number refusal)
count_says (Ok n) = Numbers n.accepted n.held n.struck n.covered

-- The case that says it: no other does (`count_is` in CallLaws).
abbrev pub counts_of : List ℕ → Small → Counts
counts_of t s = record { accepted = s.accepted; held = length (held_records (pages_of t) s); struck = s.struck; covered = s.covered }

unfoldable pub counted : List ℕ → Small → Result Counts Refusal
counted t s = cond (table_fits t) (cond (well_formed t s) (Ok (counts_of t s)) (Err no.Damaged)) (Err no.Table)

-- Rules 7.24, 7.7: saving gives 1, 7, 4. The buffer must have the image's length.
unfoldable pub save_refusal : List ℕ → Small → List ℕ → ℕ
save_refusal t s out =
    first_of (not (table_fits t)) 1
    (first_of (not (eqb (length out) (image_length (pages_in t)))) 7
    (first_of (not (well_formed t s)) 4
    0))

pub record Saved : Type 0 where
  pub refusal : ℕ
  pub buffer : List ℕ

-- Rules 6.1, 6.5, 7.32: the image in the book's form, or the buffer as it was.
unfoldable pub saved : List ℕ → Small → List ℕ → Saved
saved t s out = let n = save_refusal t s out in record { refusal = n; buffer = cond (eqb n 0) (image_of image_form t s) out }

-- Rules 7.25, 7.1, 7.8: loading gives 7, 1, 8 and 4. P is the number of pages that the image's length tells.
abbrev pub pages_refusal : List ℕ → List ℕ → Option ℕ → ℕ
pages_refusal image t None = 7
pages_refusal image t (Some p) =
    first_of (not (eqb (length t) (page_words * p))) 1
    (first_of (not (trailer_good image_form p (trailer_of image))) 8
    0)

unfoldable pub image_refusal : List ℕ → List ℕ → ℕ
image_refusal image t = pages_refusal image t (image_pages (length image))

-- the small record that an image holds
abbrev pub image_small : List ℕ → Small
image_small image = small_of (trailer_of image)

-- Rules 6.7, 7.4, 7.33: the image's pages and small record, or the empty book.
abbrev pub loaded_pages : List ℕ → List ℕ → Left
loaded_pages image t = cond (well_formed (image_table image) (image_small image)) (unchanged 0 (image_table image) (image_small image)) (empty_book 4 t)

unfoldable pub loaded : List ℕ → List ℕ → Small → Left
loaded image t s = let n = image_refusal image t in cond (eqb n 0) (loaded_pages image t) (unchanged n t s)
