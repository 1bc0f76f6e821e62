-- The examples of RULES.md that ask, each by computation on a table of 180 pages.
use Rattle.std.specs.Prelude.{ℕ, ◌-◌, List, [], ◌∷◌, ◌++◌, ◌≡◌, refl, length, take, replicate}
use Rattle.ground.specs.Boxes.{touches, covers, legal}
use Rattle.ground.specs.declared.boxes.Range.{Range}
use Rattle.ground.specs.declared.boxes.Box.{Box}
use Rattle.pages.specs.Layout.{page_entries, zero_box, zero_entry, free_page, table_of, pages_of, cut_pages, page_of, entries_of, entry_at, box_at, words_of_page, words_of_entries, words_of_entry, words_of_box}
use Rattle.pages.specs.declared.Small.{Small}
use Rattle.pages.specs.declared.Entry.{Entry}
use Rattle.pages.specs.declared.Page.{Page}
use Rattle.asking.specs.Asking.{raised, step, follow, search_entry, search_record, search_one, in_order, may_open, search_opened, search_page, search_book, answered, asked}
use Rattle.std.specs.Prelude.{Some, None, Ok, Err}
use Rattle.ground.specs.declared.refusals.Refusal.TheVariants as no

abbrev to : ℕ → ℕ → Range
to a b = record { low = a; high = b }

abbrev over : Range → Range → Range → Box
over e n d = record { east = e; north = n; day = d }

-- a record as a leaf holds it, a page of some entries, and a book of 180 pages
abbrev held : Box → ℕ → Entry
held b v = record { place = b; gust = v; weakest = 0; child = 0; strongest = zero_box; union = zero_box }

abbrev page_with : ℕ → List Entry → Page
page_with level es = record { level = level; count = length es; entries = take page_entries (es ++ replicate page_entries zero_entry) }

abbrev book_with : List Page → List ℕ
book_with ps = table_of (ps ++ replicate (180 - length ps) free_page)

abbrev small : ℕ → ℕ → ℕ → Small
small root height accepted = record { root = root; height = height; accepted = accepted; struck = 0; covered = 0 }

-- the transcript: one record, 10 to 19, 10 to 19, 1900-01-01 to 1900-01-10, gust 250
abbrev one_record : List ℕ
one_record = book_with (page_with 1 (held (over (to 10 19) (to 10 19) (to 7_305 7_314)) 250 ∷ []) ∷ [])

-- Rule 9.1, P: ask 19 25 19 25 1900-01-10 1900-02-01 gives gust 250, pages 1
pub corner : asked one_record (small 0 1 1) (over (to 19 25) (to 19 25) (to 7_314 7_336)) ≡ Ok (record { gust = Some 250; pages = 1 })
unfolding asked search_book search_page search_opened search_one search_record raised in_order may_open answered legal touches table_of pages_of cut_pages page_of entries_of entry_at box_at words_of_page words_of_entries words_of_entry words_of_box
corner = refl

-- Rule 9.1, P: ask 20 25 10 19 1900-01-01 1900-01-10 gives nothing, pages 1
pub beside : asked one_record (small 0 1 1) (over (to 20 25) (to 10 19) (to 7_305 7_314)) ≡ Ok (record { gust = None; pages = 1 })
unfolding asked search_book search_page search_opened search_one search_record raised in_order may_open answered legal touches table_of pages_of cut_pages page_of entries_of entry_at box_at words_of_page words_of_entries words_of_entry words_of_box
beside = refl

-- a table that is no book, a box that is none, and a page that points at itself are refused
pub no_table : asked (0 ∷ []) (small 0 1 0) (over (to 0 0) (to 0 0) (to 0 0)) ≡ Err no.Table
unfolding asked search_book search_page search_opened search_one search_record raised in_order may_open answered legal touches pages_of cut_pages
no_table = refl

pub no_box : asked one_record (small 0 1 1) (over (to 5 4) (to 0 0) (to 0 0)) ≡ Err no.Box
unfolding asked search_book search_page search_opened search_one search_record raised in_order may_open answered legal touches table_of pages_of cut_pages page_of entries_of entry_at box_at words_of_page words_of_entries words_of_entry words_of_box
no_box = refl

abbrev at_itself : List ℕ
at_itself = book_with (page_with 2 (record { place = over (to 0 9) (to 0 0) (to 0 0); gust = 5; weakest = 5; child = 0; strongest = over (to 9 9) (to 0 0) (to 0 0); union = zero_box } ∷ []) ∷ [])

pub points_at_itself : asked at_itself (small 0 2 1) (over (to 0 0) (to 0 0) (to 0 0)) ≡ Err no.Damaged
unfolding asked search_book search_page search_opened search_one search_record search_entry raised step follow in_order may_open answered legal touches covers table_of pages_of cut_pages page_of entries_of entry_at box_at words_of_page words_of_entries words_of_entry words_of_box
points_at_itself = refl
