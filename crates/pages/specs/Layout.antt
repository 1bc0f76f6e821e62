-- RULES.md, section 2: the table, and where each word lies.
use Rattle.std.specs.Prelude.{ℕ, zero, suc, ◌+◌, ◌*◌, ◌/◌, Bool, ◌&&◌, List, [], ◌∷◌, ◌++◌, leb, eqb, length, get_or, set, take, drop, replicate}
use Rattle.ground.specs.declared.boxes.Range.{Range}
use Rattle.ground.specs.declared.boxes.Box.{Box}
use Rattle.pages.specs.declared.Entry.{Entry}
use Rattle.pages.specs.declared.Page.{Page}

-- Rule 2.2: the words of a page.
abbrev pub page_words : ℕ
page_words = 170

-- Rule 2.13: the words of an entry, and the entries of a page.
abbrev pub entry_words : ℕ
entry_words = 21

abbrev pub page_entries : ℕ
page_entries = 8

-- Rule 2.3: the most pages of a table.
abbrev pub most_pages : ℕ
most_pages = 4_096

-- How many whole pages a table has.
abbrev pub pages_in : List ℕ → ℕ
pages_in t = length t / page_words

-- Rules 2.3, 3.1, 7.1: refusal 1 is given if the table is not 170 × P words, P 1 to 4,096. A table fits if it is not given.
abbrev pub table_fits : List ℕ → Bool
table_fits t = leb 1 (pages_in t) && leb (pages_in t) most_pages && eqb (pages_in t * page_words) (length t)

-- Rule 2.15: a box takes six words, east low, east high, north low, north high, day low, day high.
abbrev pub range_at : List ℕ → ℕ → Range
range_at t k = record { low = get_or t k 0; high = get_or t (k + 1) 0 }

unfoldable pub box_at : List ℕ → ℕ → Box
box_at t k = record { east = range_at t k; north = range_at t (k + 2); day = range_at t (k + 4) }

-- Rules 2.14, 2.16: an entry is its box; gust or strongest gust below; weakest gust below; child page; the strongest record's box; the union box.
unfoldable pub entry_at : List ℕ → ℕ → Entry
entry_at t k =
    record {
      place = box_at t k;
      gust = get_or t (k + 6) 0;
      weakest = get_or t (k + 7) 0;
      child = get_or t (k + 8) 0;
      strongest = box_at t (k + 9);
      union = box_at t (k + 15);
    }

-- Entries that follow each other, cut off one by one.
unfoldable pub entries_of : ℕ → List ℕ → List Entry
entries_of zero w = []
entries_of (suc n) w = entry_at w 0 ∷ entries_of n (drop entry_words w)

-- Rules 2.11, 2.12, 2.13: a page from its words. Word 0 is its level, word 1 the count, then eight entries.
unfoldable pub page_of : List ℕ → Page
page_of w = record { level = get_or w 0 0; count = get_or w 1 0; entries = entries_of page_entries (drop 2 w) }

-- Page p of a table.
unfoldable pub page_at : List ℕ → ℕ → Page
page_at t p = page_of (drop (p * page_words) t)

-- The same words where they lie: page p's level and count, and where its entry i starts.
abbrev pub level_at : List ℕ → ℕ → ℕ
level_at t p = get_or t (p * page_words) 0

abbrev pub count_at : List ℕ → ℕ → ℕ
count_at t p = get_or t (p * page_words + 1) 0

abbrev pub entry_start : ℕ → ℕ → ℕ
entry_start p i = p * page_words + (2 + i * entry_words)

abbrev pub entry_in : List ℕ → ℕ → ℕ → Entry
entry_in t p i = entry_at t (entry_start p i)

-- The words of a page, in the order in which they are read.
abbrev pub words_of_range : Range → List ℕ
words_of_range r = r.low ∷ r.high ∷ []

unfoldable pub words_of_box : Box → List ℕ
words_of_box b = words_of_range b.east ++ (words_of_range b.north ++ words_of_range b.day)

unfoldable pub words_of_entry : Entry → List ℕ
words_of_entry e = words_of_box e.place ++ (e.gust ∷ e.weakest ∷ e.child ∷ (words_of_box e.strongest ++ words_of_box e.union))

-- What stands in an entry after its gust: in a leaf entry all of it is 0.
abbrev pub after_gust : Entry → List ℕ
after_gust e = drop 7 (words_of_entry e)

unfoldable pub words_of_entries : List Entry → List ℕ
words_of_entries [] = []
words_of_entries (e ∷ es) = words_of_entry e ++ words_of_entries es

unfoldable pub words_of_page : Page → List ℕ
words_of_page x = x.level ∷ x.count ∷ words_of_entries x.entries

-- A page with another entry at place i, and a count.
abbrev pub with_entry : Page → ℕ → ℕ → Entry → Page
with_entry x n i e = record { level = x.level; count = n; entries = set x.entries i e }

-- The table with another page p.
unfoldable pub put_page : List ℕ → ℕ → Page → List ℕ
put_page t p x = take (p * page_words) t ++ (words_of_page x ++ drop (p * page_words + page_words) t)

-- The table as a list of pages, cut off one by one, and a list of pages as a table.
unfoldable pub cut_pages : ℕ → List ℕ → List Page
cut_pages zero t = []
cut_pages (suc n) t = page_of t ∷ cut_pages n (drop page_words t)

unfoldable pub pages_of : List ℕ → List Page
pages_of t = cut_pages (pages_in t) t

unfoldable pub table_of : List Page → List ℕ
table_of [] = []
table_of (x ∷ xs) = words_of_page x ++ table_of xs

-- Rule 2.18: unused entries and free pages are all 0.
abbrev pub zero_range : Range
zero_range = record { low = 0; high = 0 }

abbrev pub zero_box : Box
zero_box = record { east = zero_range; north = zero_range; day = zero_range }

abbrev pub zero_entry : Entry
zero_entry = record { place = zero_box; gust = 0; weakest = 0; child = 0; strongest = zero_box; union = zero_box }

abbrev pub free_page : Page
free_page = record { level = 0; count = 0; entries = replicate page_entries zero_entry }
