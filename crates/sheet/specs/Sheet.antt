-- A sheet of up to 32 questions: each row is answered by itself, in order, and nothing else in it is touched.
use Rattle.std.specs.Prelude.{ℕ, cond, List, map, ltb, length}
use Rattle.asking.specs.Asking.{asked}
use Rattle.asking.specs.declared.Asked.{Asked}
use Rattle.std.specs.Prelude.{Option, Some, None, Result, Ok, Err}
use Rattle.ground.specs.Refusals.{number}
use Rattle.ground.specs.declared.refusals.Refusal.{Refusal}
use Rattle.pages.specs.declared.Small.{Small}
use Rattle.wide.specs.Wide.{as_given}
use Rattle.wide.specs.declared.WideBox.{WideBox}
use Rattle.sheet.specs.declared.row.Row.{Row}

-- Rule 5.31, a row's question: a box of six numbers, as great as they are.
abbrev pub question : Row → WideBox
question r =
    record {
      east = record { low = r.east_low; high = r.east_high };
      north = record { low = r.north_low; high = r.north_high };
      day = record { low = r.day_low; high = r.day_high };
    }

-- Rule 5.31: the four numbers of an answer are put in; the question stays.
abbrev pub told : Row → ℕ → ℕ → ℕ → ℕ → Row
told r refusal any gust pages =
    record {
      east_low = r.east_low;
      east_high = r.east_high;
      north_low = r.north_low;
      north_high = r.north_high;
      day_low = r.day_low;
      day_high = r.day_high;
      refusal = refusal;
      any = any;
      gust = gust;
      pages = pages;
    }

-- Rule 5.33: a question that is refused has its number in its own row, and 0 in the other places. Else 0; 1 and the gust, or 0 and 0 for nothing; the pages opened.
abbrev pub filled_with : Row → Option ℕ → ℕ → Row
filled_with r None pages = told r 0 0 0 pages
filled_with r (Some gust) pages = told r 0 1 gust pages

abbrev pub filled : Row → Result Asked Refusal → Row
filled r (Err refusal) = told r (number refusal) 0 0 0
filled r (Ok said) = filled_with r said.gust said.pages

-- Rule 5.32, a row answered: what the single question answers is filled in.
abbrev pub answered : List ℕ → Small → Row → Row
answered t s r = filled r (asked t s (as_given (question r)))

-- What a sheet leaves: the number returned, and the rows.
pub record Left : Type 0 where
  pub refusal : ℕ
  pub rows : List Row

-- Rule 5.31: the most rows of a sheet.
abbrev pub most_rows : ℕ
most_rows = 32

-- Rules 7.11, 7.27 and 7.32: more than 32 rows is refused by 11, before all others, and the sheet is unchanged; else each row is answered, by rule 5.32.
abbrev pub sheet : List ℕ → Small → List Row → Left
sheet t s rows = cond (ltb most_rows (length rows)) (record { refusal = 11; rows = rows }) (record { refusal = 0; rows = map (answered t s) rows })
