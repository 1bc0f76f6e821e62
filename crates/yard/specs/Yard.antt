-- Rule 13.a: a strip that is all nothing, fed without refusal with the days and gusts of all records of the full list that touch one square,
-- answers every range of days as the book does for that square.
use Rattle.std.specs.Prelude.{ℕ, ◌+◌, ◌≤◌, max, Bool, true, false, cond, ◌&&◌, List, [], ◌∷◌, Ok, ◌≡◌, refl}
use Rattle.std.proofs.Common.{sym, ap, ◌∙◌, arith}
use Rattle.ground.specs.Boxes.{east_limit, north_limit, day_limit, touches_on, touches, legal_on, legal}
use Rattle.ground.specs.Facts.{legal_on_lem, legal_so}
use Rattle.ground.specs.declared.boxes.Range.{Range}
use Rattle.ground.specs.declared.boxes.Box.{Box}
use Rattle.pages.specs.declared.Entry.{Entry}
use Rattle.wellformed.specs.WellFormed.{well_formed}
use Rattle.asking.specs.Asking.{asked, says}
use Rattle.asking.specs.BoxMax.{greatest, score, box_max}
use Rattle.index.specs.Run.{Call, Book, held, Moment, run, Good}
use Rattle.index.specs.RunLaws.{any_run}
use Rattle.strip.specs.StripCalls.{Lent, meaning, is_strip, greatest_in, answer_of, asked as strip_asked}
use Rattle.strip.specs.Feeding.{Report, fed, Taken, SameReports, most, most_same, gives_range, fed_strip, fed_answers}

-- One number as a range, a square over some days, and whether a record touches the square.
abbrev pub only : ℕ → Range
only n = record { low = n; high = n }

abbrev pub square : ℕ → ℕ → Range → Box
square east north days = record { east = only east; north = only north; day = days }

abbrev pub on_square : ℕ → ℕ → Entry → Bool
on_square east north e = touches_on (only east) e.place.east && touches_on (only north) e.place.north

-- The days and gusts of the records that touch it.
unfoldable pub reports_of : ℕ → ℕ → List Entry → List Report
reports_of east north [] = []
reports_of east north (e ∷ es) =
    cond (on_square east north e) (record { days = e.place.day; gust = e.gust } ∷ reports_of east north es) (reports_of east north es)

-- the book's answer for a square is the greatest gust of these that touch its days
square_max : (east north : ℕ) (q : Range) (es : List Entry) → box_max (square east north q) es ≡ most (gives_range q) (reports_of east north es)
unfolding greatest score touches reports_of most gives_range
square_max east north q [] = refl
square_max east north q (e ∷ es) = by_test (on_square east north e) (square_max east north q es)
  where
    by_test : (t : Bool) → box_max (square east north q) es ≡ most (gives_range q) (reports_of east north es)
        → max (cond (t && touches_on q e.place.day) (e.gust + 1) 0) (box_max (square east north q) es)
        ≡ most (gives_range q) (cond t (record { days = e.place.day; gust = e.gust } ∷ reports_of east north es) (reports_of east north es))
    by_test true h = ap (max (cond (touches_on q e.place.day) (e.gust + 1) 0)) h
    by_test false h = omega arith

-- What a strip is fed with.
pub record Fed (m : Moment) (east north : ℕ) (rs : List Report) (s : Lent) : Type 0 where
  pub strip : is_strip s ≡ true
  pub nothing : (d : ℕ) → d ≤ day_limit → meaning s d ≡ 0
  pub all : SameReports rs (reports_of east north m.list)
  pub taken : Taken rs s

-- At every good moment: the strip is not refused, nor is the book, and they answer alike.
pub record Alike (m : Moment) (east north : ℕ) (rs : List Report) (s : Lent) (q : Range) : Type 0 where
  pub book : (says (asked m.book.table m.book.small (square east north q))).refusal ≡ 0
  pub strip : strip_asked (fed rs s) q ≡ Ok (answer_of (says (asked m.book.table m.book.small (square east north q))).best)

pub good_strip : (m : Moment) → Good m → (east north : ℕ) → east ≤ east_limit → north ≤ north_limit → (rs : List Report) (s : Lent) → Fed m east north rs s
    → (q : Range) → legal_on day_limit q ≡ true → Alike m east north rs s q
unfolding strip_asked
good_strip m good east north p r rs s h q l =
    let lawful = legal_on_lem day_limit q l in
    let legal_square : legal (square east north q) ≡ true =
    legal_so (square east north q) (record { east = record { order = omega arith; within = p }; north = record { order = omega arith; within = r }; day = lawful }) in
    let a = good.answers (square east north q) legal_square in
    let best : greatest_in (fed rs s) q ≡ (says (asked m.book.table m.book.small (square east north q))).best =
    fed_answers q lawful rs s h.strip h.nothing h.taken ∙ most_same (gives_range q) rs (reports_of east north m.list) h.all ∙ sym (square_max east north q m.list) ∙ sym a.best in
    record { book = a.never_refused; strip = rw (l, fed_strip rs s h.strip h.taken) (ap (λ v. Ok (answer_of v)) best) }

-- So after any run of calls, from any well-formed book.
pub any_run_strip : (cs : List Call) (b : Book) → well_formed b.table b.small ≡ true → (east north : ℕ) → east ≤ east_limit → north ≤ north_limit
    → let m : Moment = run cs (record { book = b; list = held b }) in
    (rs : List Report) (s : Lent) → Fed m east north rs s → (q : Range) → legal_on day_limit q ≡ true → Alike m east north rs s q
any_run_strip cs b w east north p r = good_strip (run cs (record { book = b; list = held b })) (any_run cs b w).last east north p r
