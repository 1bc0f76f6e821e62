-- The examples marked P in section 9 of RULES.md, in one list: each is a theorem, by computation.
use Rattle.std.specs.Prelude.{ℕ, true, ◌≡◌, refl, replicate}
use Rattle.std.proofs.Math.Bool.{xor}
use mathlib.Core.List.{List, [], ◌∷◌, flat_map, map}
use Rattle.std.proofs.Common.{ap, ◌∙◌}
use Rattle.asking.specs.Asking.{asked, raised, step, follow, search_entry, search_record, search_one, in_order, may_open, search_opened, search_page, search_book, answered as asked_by}
use Rattle.asking.specs.declared.Asked.{Asked}
use Rattle.ground.specs.declared.refusals.Refusal.{Refusal}
use Rattle.std.specs.Prelude.{Result, Ok, Some, None}
use Rattle.ground.specs.Boxes.{join, size, covers, touches, legal}
use Rattle.ground.specs.Cutting.{cut, cuts_on, covers_one_end, left, left_on}
use Rattle.ground.specs.declared.boxes.Box.{Box}
use Rattle.pages.specs.Free.{empty_table, empty_small, lowest_from, free_count, empty_leaf}
use Rattle.pages.specs.FreeLaws.{empty_pages_lem}
use Rattle.pages.specs.Layout.{table_fits, free_page, table_of, pages_of, cut_pages, page_of, entries_of, entry_at, box_at, words_of_page, words_of_entries, words_of_entry, words_of_box}
use Rattle.pages.specs.Summary.{summary_of, summary, covering, first_greatest, least_of}
use Rattle.pages.specs.Words.{every, same_words}
use Rattle.pages.specs.declared.Entry.{Entry}
use Rattle.pages.specs.declared.Page.{Page}
use Rattle.pages.specs.declared.Small.{Small}
use Rattle.split.specs.Split.{halves, page_from, begin, seeds, places, pairs, pairs_with, most_wasteful, wastes_more, place_all, place, takes, next, first_most, growths_differ, growth as group_growth, second_takes}
use Rattle.wellformed.specs.WellFormed.{every_below, times, children, walk, leaf_entries, held_records, root_stands, is_lower, children_lower, reached_once, count_stands, leaf_entry_stands, is_exact, entries_stand, page_stands, counts_stand, pages_stand, well_formed}
use Rattle.rules.specs.Examples.{Report, run as in_turn, nine_in_a_row as nine_by_the_rules}
use Rattle.rules.specs.EmptyBook.{empty_well_formed}
use Rattle.rules.specs.Strike.{select, strike_all, strike_one, strike}
use Rattle.rules.specs.Scan.{candidate, scan_entry, scan}
use Rattle.rules.specs.Recording.{growth, goes_before, least_grown, choose, leaf_entry, split_page, settle, exact_at, come_back, append, go_down, go_on, walk_down, from_root, collapse, Outcome, Outcome.Kept, Outcome.Cut, Outcome.Covered, recorded}
use Rattle.rules.specs.Record.{Called, Reply.Refused, Reply.Answered, refusal, record_into, refused}
use Rattle.index.specs.Calls.{count_answer, CountSaid.Numbers}
use Rattle.index.specs.Run.{Book, run}
use Rattle.examples.specs.InTurn.{calls_of, book_of, pass_one, all_pass, in_turn_lem}
-- The dates: 1880-03-01 is day 60; 1900-01-01 is 7,305; 2039-12-31 is 58,438.
pub use Rattle.ground.specs.Examples.{first_of_march, new_century, last_day}

-- a box by its six numbers: 1900-01-01 is day 7,305
abbrev over : ℕ → ℕ → ℕ → ℕ → ℕ → ℕ → Box
over e f n m d g = record { east = record { low = e; high = f }; north = record { low = n; high = m }; day = record { low = d; high = g } }

-- the program's table of 180 pages, a leaf root with some records, and a small record of height 1
abbrev table : List Entry → List ℕ
table es = table_of (page_from 1 es ∷ replicate 179 free_page)

abbrev small : ℕ → ℕ → ℕ → Small
small accepted struck covered = record { root = 0; height = 1; accepted = accepted; struck = struck; covered = covered }

abbrev says : Outcome → ℕ → List Entry → Small → Called
says o k es s = record { reply = Answered (record { outcome = o; struck = k }); table = table es; small = s }

-- the records that the transcript's book holds, one after another
abbrev one : List Entry
one = leaf_entry (over 10 19 10 19 7_305 7_314) 250 ∷ []

abbrev wider : List Entry
wider = leaf_entry (over 10 29 10 19 7_305 7_314) 250 ∷ []

abbrev two : List Entry
two = leaf_entry (over 10 29 10 19 7_305 7_314) 250 ∷ leaf_entry (over 30 35 10 19 7_305 7_314) 250 ∷ []

-- Rule 9.1: the transcript: each line's answer, with the table and small record that it leaves to the next.
pub record Transcript : Type 0 where
  -- add 10 19 10 19 1900-01-01 1900-01-10 250: kept struck 0
  pub line_1 : record_into (table []) empty_small (over 10 19 10 19 7_305 7_314) 250 ≡ says Kept 0 one (small 1 0 0)
  -- ask 19 25 19 25 1900-01-10 1900-02-01: gust 250 pages 1
  pub line_2 : asked (table one) (small 1 0 0) (over 19 25 19 25 7_314 7_336) ≡ Ok (record { gust = Some 250; pages = 1 })
  -- ask 20 25 10 19 1900-01-01 1900-01-10: nothing pages 1
  pub line_3 : asked (table one) (small 1 0 0) (over 20 25 10 19 7_305 7_314) ≡ Ok (record { gust = None; pages = 1 })
  -- add 10 29 10 19 1900-01-01 1900-01-10 250: kept struck 1
  pub line_4 : record_into (table one) (small 1 0 0) (over 10 29 10 19 7_305 7_314) 250 ≡ says Kept 1 wider (small 2 1 0)
  -- add 15 35 10 19 1900-01-01 1900-01-10 250: cut struck 0
  pub line_5 : record_into (table wider) (small 2 1 0) (over 15 35 10 19 7_305 7_314) 250 ≡ says Cut 0 two (small 3 1 0)
  -- add 12 18 12 18 1900-01-02 1900-01-03 100: covered struck 0
  pub line_6 : record_into (table two) (small 3 1 0) (over 12 18 12 18 7_306 7_307) 100 ≡ says Covered 0 two (small 4 1 1)
  -- add 5 4 0 0 1900-01-01 1900-01-01 1: refused 2
  pub line_7 : record_into (table two) (small 4 1 1) (over 5 4 0 0 7_305 7_305) 1 ≡ refused 2 (table two) (small 4 1 1)
  -- count: accepted 4 held 2 struck 1 covered 1
  pub line_8 : count_answer (table two) (small 4 1 1) ≡ Numbers 4 2 1 1

pub transcript : Transcript
unfolding record_into refusal recorded from_root collapse walk_down go_on go_down append come_back exact_at settle split_page choose least_grown goes_before growth scan scan_entry candidate strike strike_one strike_all select cut cuts_on covers_one_end left left_on xor covers touches join size summary_of summary covering first_greatest least_of lowest_from free_count page_from well_formed pages_stand root_stands every_below children_lower is_lower children every reached_once times walk page_stands count_stands entries_stand leaf_entry_stands is_exact same_words counts_stand held_records leaf_entries flat_map legal table_of pages_of cut_pages page_of entries_of entry_at box_at words_of_page words_of_entries words_of_entry words_of_box asked search_book search_page search_opened search_one search_record raised in_order may_open asked_by
transcript = record { line_1 = refl; line_2 = refl; line_3 = refl; line_4 = refl; line_5 = refl; line_6 = refl; line_7 = refl; line_8 = refl }

-- Rule 9.5: held 15 to 20, new 10 to 29 weaker, other axes equal: not cut, since two ends would stay. The new one is stored whole beside the held one.
abbrev short : List Entry
short = leaf_entry (over 15 20 10 19 7_305 7_314) 250 ∷ []

abbrev both : List Entry
both = leaf_entry (over 15 20 10 19 7_305 7_314) 250 ∷ leaf_entry (over 10 29 10 19 7_305 7_314) 249 ∷ []

pub record TwoEnds : Type 0 where
  pub held : record_into (table []) empty_small (over 15 20 10 19 7_305 7_314) 250 ≡ says Kept 0 short (small 1 0 0)
  pub weaker : record_into (table short) (small 1 0 0) (over 10 29 10 19 7_305 7_314) 249 ≡ says Kept 0 both (small 2 0 0)

pub two_ends_stay : TwoEnds
unfolding record_into refusal recorded from_root collapse walk_down go_on go_down append come_back exact_at settle split_page choose least_grown goes_before growth scan scan_entry candidate strike strike_one strike_all select cut cuts_on covers_one_end left left_on xor covers touches join size summary_of summary covering first_greatest least_of lowest_from free_count page_from well_formed pages_stand root_stands every_below children_lower is_lower children every reached_once times walk page_stands count_stands entries_stand leaf_entry_stands is_exact same_words counts_stand held_records leaf_entries flat_map legal table_of pages_of cut_pages page_of entries_of entry_at box_at words_of_page words_of_entries words_of_entry words_of_box
two_ends_stay = record { held = refl; weaker = refl }

-- Rule 9.6: nine records of gust 100, one cell each, north 0, day 0, east 0, 10 .. 80 in order, as calls on the program's 180 pages, cleared.
abbrev reports : List Report
reports = map (λ x. record { box = over x x 0 0 0 0; gust = 100 }) (0 ∷ 10 ∷ 20 ∷ 30 ∷ 40 ∷ 50 ∷ 60 ∷ 70 ∷ 80 ∷ [])

abbrev cleared : List ℕ
cleared = empty_table (replicate 30_600 0)

abbrev pub nine : Book
nine = (run (calls_of reports) (record { book = record { table = cleared; small = empty_small }; list = [] })).book

-- Leaf page 0 holds 0 to 50, page 1 holds 80, 60, 70; root page 2.
abbrev leaf : List ℕ → Page
leaf xs = page_from 1 (map (λ x. leaf_entry (over x x 0 0 0 0) 100) xs)

abbrev above : ℕ → ℕ → ℕ → ℕ → Entry
above p a b first = record { place = over a b 0 0 0 0; gust = 100; weakest = 100; child = p; strongest = over first first 0 0 0 0; union = over first first 0 0 0 0 }

abbrev nine_pages : List Page
nine_pages =
    leaf (0 ∷ 10 ∷ 20 ∷ 30 ∷ 40 ∷ 50 ∷ [])
    ∷ leaf (80 ∷ 60 ∷ 70 ∷ [])
    ∷ page_from 2 (above 0 0 50 0 ∷ above 1 60 80 80 ∷ [])
    ∷ replicate 177 free_page

none_refused : all_pass (empty_leaf ∷ replicate 179 free_page) empty_small reports ≡ true
unfolding all_pass pass_one recorded from_root collapse walk_down go_on go_down append come_back exact_at settle split_page choose least_grown goes_before growth scan scan_entry candidate strike strike_one strike_all select cut cuts_on covers_one_end left left_on xor covers touches join size summary_of summary covering first_greatest least_of lowest_from free_count halves page_from begin seeds places pairs pairs_with most_wasteful wastes_more place_all place takes next first_most growths_differ group_growth second_takes legal
none_refused = refl

pub nine_in_a_row : nine ≡ record { table = table_of nine_pages; small = record { root = 2; height = 2; accepted = 9; struck = 0; covered = 0 } }
nine_in_a_row =
    let fits : table_fits (replicate 30_600 0) ≡ true = refl in
    let pages = empty_pages_lem (replicate 30_600 0) fits in
    in_turn_lem reports cleared empty_small [] (empty_well_formed (replicate 30_600 0) fits) (ap (λ (ps : List Page). all_pass ps empty_small reports) pages ∙ none_refused)
    ∙ ap (λ (ps : List Page). book_of (in_turn ps empty_small reports)) pages
    ∙ ap book_of nine_by_the_rules

-- Rule 9.7: asking there, east 75 to 79, gives nothing, 2 pages; 45 to 65 gives 100, 2 pages.
abbrev ask_in : Box → Book → Result Asked Refusal
ask_in q k = asked k.table k.small q

pub between : ask_in (over 75 79 0 0 0 0) nine ≡ Ok (record { gust = None; pages = 2 })
unfolding asked search_book search_page search_opened search_one search_record search_entry raised step follow in_order may_open asked_by legal touches covers table_of pages_of cut_pages page_of entries_of entry_at box_at words_of_page words_of_entries words_of_entry words_of_box page_from
between = ap (ask_in (over 75 79 0 0 0 0)) nine_in_a_row

pub across : ask_in (over 45 65 0 0 0 0) nine ≡ Ok (record { gust = Some 100; pages = 2 })
unfolding asked search_book search_page search_opened search_one search_record search_entry raised step follow in_order may_open asked_by legal touches covers table_of pages_of cut_pages page_of entries_of entry_at box_at words_of_page words_of_entries words_of_entry words_of_box page_from
across = ap (ask_in (over 45 65 0 0 0 0)) nine_in_a_row
