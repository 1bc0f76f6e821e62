-- What holds of a sheet: its answers are those of single questions, in order; on a book of a run of calls, those of the full list.
use Rattle.std.specs.Prelude.{ℕ, ◌+◌, ◌<◌, ◌≤◌, true, false, cond, List, [], ◌∷◌, map, ◌≡◌, refl, eqb, length}
use Rattle.std.proofs.Common.{sym, ap, ◌∙◌, lt-ltb, le-ltb}
use Rattle.asking.specs.Asking.{Said, asked, says}
use Rattle.asking.specs.BoxMax.{box_max, touching_pages, other_pages}
use Rattle.asking.specs.declared.Asked.{Asked}
use Rattle.std.specs.Prelude.{Option, Some, None, Result, Ok, Err}
use Rattle.ground.specs.declared.refusals.Refusal.{Refusal}
use Rattle.ground.specs.declared.refusals.Refusal.TheVariants as no
use Rattle.ground.specs.Boxes.{legal}
use Rattle.ground.specs.declared.boxes.Box.{Box}
use Rattle.index.specs.Run.{Call, Book, held, Moment, run, Good}
use Rattle.index.specs.RunLaws.{any_run}
use Rattle.pages.specs.Layout.{pages_of}
use Rattle.pages.specs.declared.Small.{Small}
use Rattle.wellformed.specs.Parts.{parts}
use Rattle.wellformed.specs.WellFormed.{well_formed}
use Rattle.wide.specs.Wide.{as_given}
use Rattle.sheet.specs.Sheet.{question, filled, filled_with, answered, Left, most_rows, sheet}
use Rattle.sheet.specs.declared.row.Row.{Row}

-- The promise settles the number returned and every number of every row: two results that it allows are equal.
pub sheet_settled : (x a b : Left) → a ≡ x → b ≡ x → (a.refusal ≡ b.refusal) × (a.rows ≡ b.rows)
sheet_settled x a b e f = let g = e ∙ sym f in (ap (λ (y : Left). y.refusal) g, ap (λ (y : Left). y.rows) g)

-- Two sheets row by row, in order: as many rows, and each pair of them as P says.
abbrev pub RowByRow : (Row → Row → Type 0) → List Row → List Row → Type 0
RowByRow P [] [] = Unit {0}
RowByRow P (x ∷ xs) (y ∷ ys) = P x y × RowByRow P xs ys
RowByRow P [] (y ∷ ys) = ⊥
RowByRow P (x ∷ xs) [] = ⊥

each_row : (P : Row → Row → Type 0) (f : Row → Row) → ((r : Row) → P r (f r)) → (rows : List Row) → RowByRow P rows (map f rows)
each_row P f h [] = tt
each_row P f h (r ∷ rows) = (h r, each_row P f h rows)

-- What a row says, in the rules' numbers: the refusal (0 is none), the best gust (Nothing is 0, a gust v is v + 1), the pages opened.
abbrev pub row_says : Row → Said
row_says r = record { refusal = r.refusal; best = cond (eqb r.any 0) 0 (r.gust + 1); pages = r.pages }

abbrev pub box_of : Row → Box
box_of r = as_given (question r)

-- A row answered by the single question: its own question stays, and it says what the single question says.
pub record Single (t : List ℕ) (s : Small) (before after : Row) : Type 0 where
  pub asks : question after ≡ question before
  pub answers : row_says after ≡ says (asked t s (box_of before))

filled_single : (t : List ℕ) (s : Small) (r : Row) (a : Result Asked Refusal) → asked t s (box_of r) ≡ a → Single t s r (filled r a)
filled_single t s r (Err refusal) e = record { asks = refl; answers = ap says (sym e) }
filled_single t s r (Ok a) e = by_gust a.gust e
  where
    by_gust : (g : Option ℕ) → asked t s (box_of r) ≡ Ok (record { gust = g; pages = a.pages }) → Single t s r (filled_with r g a.pages)
    by_gust None f = record { asks = refl; answers = ap says (sym f) }
    by_gust (Some gust) f = record { asks = refl; answers = ap says (sym f) }

pub row_single : (t : List ℕ) (s : Small) (r : Row) → Single t s r (answered t s r)
row_single t s r = filled_single t s r (asked t s (box_of r)) refl

module _ (t : List ℕ) (s : Small) (rows : List Row) where
  pub too_many : most_rows < length rows → sheet t s rows ≡ record { refusal = 11; rows = rows }
  too_many h = rw (lt-ltb most_rows (length rows) h)

  few_enough : length rows ≤ most_rows → sheet t s rows ≡ record { refusal = 0; rows = map (answered t s) rows }
  few_enough h = rw (le-ltb most_rows (length rows) h)

  -- The answers are those of single questions in order: for every table, spoilt ones too.
  pub single_questions : length rows ≤ most_rows → ((sheet t s rows).refusal ≡ 0) × RowByRow (Single t s) rows (sheet t s rows).rows
  single_questions h = rw (few_enough h) (refl, each_row (Single t s) (answered t s) (row_single t s) rows)

-- What a row says at a moment of a run: a legal question answers what a plain pass over the full list gives, and one that is not is refused by 2.
pub record FromList (m : Moment) (before after : Row) : Type 0 where
  pub asks : question after ≡ question before
  pub legal_answers : legal (box_of before) ≡ true → (after.refusal ≡ 0) × ((row_says after).best ≡ box_max (box_of before) m.list)
  pub legal_pages : legal (box_of before) ≡ true → after.pages ≤ 1 + touching_pages (pages_of m.book.table) (box_of before) (other_pages (pages_of m.book.table) m.book.small)
  pub refuses : legal (box_of before) ≡ false → row_says after ≡ record { refusal = 2; best = 0; pages = 0 }

module _ (m : Moment) (g : Good m) where
  abbrev t : List ℕ
  t = m.book.table

  abbrev s : Small
  s = m.book.small

  illegal_refused : (q : Box) → legal q ≡ false → asked t s q ≡ Err no.Box
  unfolding asked
  illegal_refused q e = rw ((parts t s g.well_formed_lem).fits, e)

  from_list : (before after : Row) → Single t s before after → FromList m before after
  from_list before after h =
      let a = h.answers in
      record {
        asks = h.asks;
        legal_answers = λ e. let k = g.answers (box_of before) e in (ap (λ (x : Said). x.refusal) a ∙ k.never_refused, ap (λ (x : Said). x.best) a ∙ k.best);
        legal_pages = λ e. rw (ap (λ (x : Said). x.pages) a) (g.answers (box_of before) e).pages;
        refuses = λ e. a ∙ ap says (illegal_refused (box_of before) e);
      }

  pub good_sheet : (rows : List Row) → length rows ≤ most_rows → ((sheet t s rows).refusal ≡ 0) × RowByRow (FromList m) rows (sheet t s rows).rows
  good_sheet rows h = rw (few_enough t s rows h) (refl, each_row (FromList m) (answered t s) (λ r. from_list r (answered t s r) (row_single t s r)) rows)

-- After any run of calls from any well-formed book, a sheet's answers are those of the full list of accepted records.
pub run_sheet : (cs : List Call) (b : Book) → well_formed b.table b.small ≡ true → (rows : List Row) → length rows ≤ most_rows
    → let m = run cs (record { book = b; list = held b }) in ((sheet m.book.table m.book.small rows).refusal ≡ 0) × RowByRow (FromList m) rows (sheet m.book.table m.book.small rows).rows
run_sheet cs b w = good_sheet (run cs (record { book = b; list = held b })) (any_run cs b w).last
