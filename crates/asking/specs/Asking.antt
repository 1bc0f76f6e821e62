-- RULES.md, section 5: asking. One definition for every table, spoilt ones too.
-- The best gust so far is a number: Nothing is 0 and a gust v is v + 1, so that Nothing lies below calm.
use Rattle.std.specs.Prelude.{Option, Some, None, Result, Ok, Err, ℕ, zero, suc, ◌+◌, max, Bool, true, false, ◌&&◌, ◌||◌, not, cond, List, [], ◌∷◌, leb, ltb, eqb, length}
use Rattle.ground.specs.Boxes.{touches, covers, legal}
use Rattle.ground.specs.declared.boxes.Box.{Box}
use Rattle.pages.specs.Layout.{page_entries, table_fits, pages_of}
use Rattle.pages.specs.Summary.{in_use, is_leaf}
use Rattle.pages.specs.declared.Small.{Small}
use Rattle.pages.specs.declared.Entry.{Entry}
use Rattle.pages.specs.declared.Page.{Page}
use Rattle.wellformed.specs.WellFormed.{page}
use Rattle.asking.specs.declared.Asked.{Asked}
use Rattle.ground.specs.declared.refusals.Refusal.{Refusal}
use Rattle.ground.specs.declared.refusals.Refusal.TheVariants as no
use Rattle.ground.specs.Refusals.{number}
use Rattle.asking.specs.declared.search.Step.{Step}
use Rattle.asking.specs.declared.search.Step.TheVariants.{Pass, Raise, Open}

-- Rule 5.2: what a search has come to, refusal 4, or the best so far and the pages opened.
pub data Search : Type 0 where
  refused : Search
  found : ℕ → ℕ → Search

-- Rule 5.5: a leaf entry that touches raises the best.
unfoldable pub raised : Box → Entry → ℕ → ℕ
raised q e best = cond (touches q e.place) (max best (e.gust + 1)) best

-- Rule 5.6: an index entry is passed over if it does not touch or its strongest gust is at most the best;
abbrev pub passed_over : Box → Entry → ℕ → Bool
passed_over q e best = not (touches q e.place) || leb (e.gust + 1) best

-- Rule 5.7: else, if its strongest box touches the question or the question covers its box, the best becomes its strongest gust;
abbrev pub answers : Box → Entry → Bool
answers q e = touches q e.strongest || covers q e.place

-- Rule 5.8: else its page is opened.
unfoldable pub step : Box → Entry → ℕ → Step
step q e best = cond (passed_over q e best) Pass (cond (answers q e) (Raise e.gust) (Open e.child))

-- Rule 5.10: the search of one entry. The search of a page one level lower is handed down.
unfoldable pub follow : (ℕ → ℕ → ℕ → Search) → Step → ℕ → ℕ → Search
follow lower Pass best opened = found best opened
follow lower (Raise gust) best opened = found (gust + 1) opened
follow lower (Open child) best opened = lower child best opened

unfoldable pub search_entry : (ℕ → ℕ → ℕ → Search) → Box → Entry → Search → Search
search_entry lower q e refused = refused
search_entry lower q e (found best opened) = follow lower (step q e best) best opened

unfoldable pub search_record : Box → Entry → Search → Search
search_record q e refused = refused
search_record q e (found best opened) = found (raised q e best) opened

-- The search of an entry of a page of the level one above n.
unfoldable pub search_one : (ℕ → ℕ → ℕ → Search) → Box → ℕ → Entry → Search → Search
search_one lower q zero = search_record q
search_one lower q (suc n) = search_entry lower q

-- Rule 5.4: entries are taken in order.
unfoldable pub in_order : (Entry → Search → Search) → List Entry → Search → Search
in_order f [] s = s
in_order f (e ∷ es) s = in_order f es (f e s)

-- Rules 5.9, 5.11: an opened page must have a number in the table, the expected level (1 or more) and a count of 1 to 8 (0 too for a leaf root), and no more pages are opened than the table has. Rule 5.14: nothing else is tested.
unfoldable pub may_open : List Page → ℕ → ℕ → ℕ → ℕ → Bool
may_open ps level least p opened =
    ltb p (length ps)
    && (leb 1 level && eqb (page ps p).level level)
    && (leb least (page ps p).count && leb (page ps p).count page_entries)
    && ltb opened (length ps)

-- Rules 5.3, 5.12: opening a page counts one; a page that may not be opened refuses the question.
unfoldable pub search_opened : Bool → (Entry → Search → Search) → List Entry → ℕ → ℕ → Search
search_opened true f es best opened = in_order f es (found best (opened + 1))
search_opened false f es best opened = refused

-- Rule 5.10: the search of page p of a level, with the least count that it may have: by recursion on the level.
unfoldable pub search_page : List Page → Box → ℕ → ℕ → ℕ → ℕ → ℕ → Search
search_page ps q zero least p best opened = refused
search_page ps q (suc n) least p best opened =
    search_opened (may_open ps (suc n) least p opened) (search_one (search_page ps q n 1) q n) (in_use (page ps p)) best opened

-- Rules 5.1, 5.2, 5.10: the root is opened, with the best gust at first Nothing. A leaf root may be empty.
abbrev pub least_root : ℕ → ℕ
least_root height = cond (is_leaf height) 0 1

unfoldable pub search_book : List Page → Small → Box → Search
search_book ps s q = search_page ps q s.height (least_root s.height) s.root 0 0

-- Rules 5.13, 1.22, 7.4: the answer is the best gust or Nothing, and the pages opened; or refusal 4.
unfoldable pub answered : Search → Result Asked Refusal
answered refused = Err no.Damaged
answered (found zero pages) = Ok (record { gust = None; pages = pages })
answered (found (suc gust) pages) = Ok (record { gust = Some gust; pages = pages })

-- Rule 7.22: refusals 1, 2 and 4, in this order.
unfoldable pub asked : List ℕ → Small → Box → Result Asked Refusal
asked t s q = cond (table_fits t) (cond (legal q) (answered (search_book (pages_of t) s q)) (Err no.Box)) (Err no.Table)

-- Rules 5.13, 7.31: what each case of the answer says, in numbers: the refusal (0 is none), the best gust (Nothing is 0, a gust v is v + 1), the pages opened.
pub record Said : Type 0 where
  pub refusal : ℕ
  pub best : ℕ
  pub pages : ℕ

abbrev pub best_of : Option ℕ → ℕ
best_of None = 0
best_of (Some gust) = gust + 1

abbrev pub says : Result Asked Refusal → Said
says (Err refusal) = record { refusal = number refusal; best = 0; pages = 0 }
says (Ok asked) = record { refusal = 0; best = best_of asked.gust; pages = asked.pages }

abbrev pub refused_by : ℕ → Said
refused_by number = record { refusal = number; best = 0; pages = 0 }

-- The whole call in these numbers: refusals 1, 2 and 4, in this order; else the best gust or Nothing, and the pages opened.
unfoldable pub told_by : Search → Said
told_by refused = refused_by 4
told_by (found best opened) = record { refusal = 0; best = best; pages = opened }

unfoldable pub told : List ℕ → Small → Box → Said
told t s q = cond (table_fits t) (cond (legal q) (told_by (search_book (pages_of t) s q)) (refused_by 2)) (refused_by 1)
