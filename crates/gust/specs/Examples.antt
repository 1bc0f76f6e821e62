-- The transcript of rule 9.1, input bytes to output bytes, on the program's own 180 pages, by computation.
use Rattle.std.specs.Prelude.{ℕ, ◌≡◌, refl, replicate}
use Rattle.std.proofs.Math.Bool.{xor}
use mathlib.Core.List.{List, [], flat_map}
use Rattle.asking.specs.Asking.{asked, raised, search_record, search_one, in_order, may_open, search_opened, search_page, search_book, answered as asked_by}
use Rattle.ground.specs.Boxes.{join, size, covers, touches, legal}
use Rattle.ground.specs.Cutting.{cut, cuts_on, covers_one_end, left, left_on}
use Rattle.ground.specs.Dates.{length_of_year, length_of_month, is_date, days_before_year, days_before_month, day_number}
use Rattle.ground.specs.Sums.{total}
use Rattle.index.specs.Calls.{counted}
use Rattle.index.specs.Run.{Book}
use Rattle.lines.specs.Lines.{text, with_byte, words, are_digits, number_from, is_a, value, are_a, values, same, command, command_of, parsed}
use Rattle.lines.specs.Printing.{decimal_of, printed}
use Rattle.pages.specs.Free.{empty_table, empty_small, lowest_from, free_count}
use Rattle.pages.specs.Layout.{table_of, pages_of, cut_pages, page_of, entries_of, entry_at, box_at, words_of_page, words_of_entries, words_of_entry, words_of_box}
use Rattle.pages.specs.Summary.{summary_of, summary, covering, first_greatest, least_of}
use Rattle.pages.specs.Words.{every, same_words}
use Rattle.split.specs.Split.{page_from}
use Rattle.wellformed.specs.WellFormed.{every_below, times, children, walk, leaf_entries, held_records, root_stands, is_lower, children_lower, reached_once, count_stands, leaf_entry_stands, is_exact, entries_stand, page_stands, counts_stand, pages_stand, well_formed}
use Rattle.rules.specs.Strike.{select, strike_all, strike_one, strike}
use Rattle.rules.specs.Scan.{candidate, scan_entry, scan}
use Rattle.rules.specs.Recording.{growth, goes_before, least_grown, choose, split_page, settle, exact_at, come_back, append, go_down, go_on, walk_down, from_root, collapse, recorded}
use Rattle.rules.specs.Record.{refusal, record_into}
use Rattle.counter.specs.Counter.{calls_of, outcome_says, record_says, gust_says, ask_says, count_says, answer_to, after_all, ended, longer, by_byte, fed, finished_by, finished}

-- Rule 8.1: the program's table of 180 empty pages, cleared
abbrev pub opened : Book
opened = record { table = empty_table (replicate 30_600 0); small = empty_small }

abbrev pub typed_in : List ℕ
typed_in =
    text
    "add 10 19 10 19 1900-01-01 1900-01-10 250\nask 19 25 19 25 1900-01-10 1900-02-01\nask 20 25 10 19 1900-01-01 1900-01-10\nadd 10 29 10 19 1900-01-01 1900-01-10 250\nadd 15 35 10 19 1900-01-01 1900-01-10 250\nadd 12 18 12 18 1900-01-02 1900-01-03 100\nadd 5 4 0 0 1900-01-01 1900-01-01 1\ncount"

abbrev pub printed_out : List ℕ
printed_out =
    text
    "kept struck 0\ngust 250 pages 1\nnothing pages 1\nkept struck 1\ncut struck 0\ncovered struck 0\nrefused 2\naccepted 4 held 2 struck 1 covered 1\n"

-- Rule 9.1.
pub transcript : (finished (fed typed_in (record { book = opened; line = []; out = [] }))).out ≡ printed_out
unfolding fed by_byte longer ended finished_by answer_to after_all calls_of record_says outcome_says gust_says ask_says count_says empty_table with_byte words are_digits number_from is_a value are_a values same command command_of parsed is_date length_of_month day_number days_before_year days_before_month length_of_year total decimal_of printed record_into refusal recorded from_root collapse walk_down go_on go_down append come_back exact_at settle split_page choose least_grown goes_before growth scan scan_entry candidate strike strike_one strike_all select cut cuts_on covers_one_end left left_on xor covers touches join size summary_of summary covering first_greatest least_of lowest_from free_count page_from well_formed pages_stand root_stands every_below children_lower is_lower children every reached_once times walk page_stands count_stands entries_stand leaf_entry_stands is_exact same_words counts_stand held_records leaf_entries flat_map legal table_of pages_of cut_pages page_of entries_of entry_at box_at words_of_page words_of_entries words_of_entry words_of_box asked search_book search_page search_opened search_one search_record raised in_order may_open asked_by counted
transcript = refl
