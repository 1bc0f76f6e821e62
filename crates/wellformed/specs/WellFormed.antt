-- RULES.md, section 3: well-formed. One definition for each condition, in the order of the rules.
use Rattle.std.specs.Prelude.{Ok, Err, Result, ℕ, zero, suc, ◌+◌, Bool, true, ◌&&◌, ◌||◌, cond, leb, ltb, eqb, length, get_or, drop}
use mathlib.Core.List.{List, [], ◌∷◌, map, flat_map}
use Rattle.ground.specs.Boxes.{legal, gust_passes}
use Rattle.pages.specs.Layout.{after_gust, page_entries, table_fits, pages_of, free_page, words_of_entry, words_of_entries, words_of_page}
use Rattle.pages.specs.Free.{is_free}
use Rattle.pages.specs.Summary.{in_use, is_leaf, summary_of}
use Rattle.pages.specs.Words.{every, all_zero, same_words}
use Rattle.pages.specs.declared.Small.{Small}
use Rattle.pages.specs.declared.Entry.{Entry}
use Rattle.pages.specs.declared.Page.{Page}
use Rattle.ground.specs.declared.refusals.Refusal.{Refusal}
use Rattle.ground.specs.declared.refusals.Refusal.TheVariants as no

-- Every number below n passes a test.
unfoldable pub every_below : (ℕ → Bool) → ℕ → Bool
every_below f zero = true
every_below f (suc n) = every_below f n && f n

-- How often a page number stands in a list.
unfoldable pub times : ℕ → List ℕ → ℕ
times p [] = 0
times p (q ∷ qs) = cond (eqb p q) 1 0 + times p qs

-- Page p of the book.
abbrev pub page : List Page → ℕ → Page
page ps p = get_or ps p free_page

-- Rule 2.11: the children of a page, the pages that the entries of an index page name.
abbrev pub child_of : Entry → ℕ
child_of e = e.child

unfoldable pub children : Page → List ℕ
children x = cond (leb 2 x.level) (map child_of (in_use x)) []

-- Rules 3.4, 3.11: the pages reached from page p, level by level down: itself, then what is reached from each child, in order.
unfoldable pub walk : List Page → ℕ → ℕ → List ℕ
walk ps zero p = []
walk ps (suc n) p = p ∷ flat_map (walk ps n) (children (page ps p))

abbrev pub reached : List Page → Small → List ℕ
reached ps s = walk ps s.height s.root

-- Rule 3.11: the held records, found by walking the leaves in order.
unfoldable pub leaf_entries : Page → List Entry
leaf_entries x = cond (is_leaf x.level) (in_use x) []

unfoldable pub held_records : List Page → Small → List Entry
held_records ps s = flat_map (λ p. leaf_entries (page ps p)) (reached ps s)

-- Rule 3.2: the root is a page of level equal to height ≥ 1.
unfoldable pub root_stands : List Page → Small → Bool
root_stands ps s = ltb s.root (length ps) && eqb (page ps s.root).level s.height && leb 1 s.height

-- Rule 3.3: each child is one level lower.
unfoldable pub is_lower : List Page → ℕ → ℕ → Bool
is_lower ps level c = ltb c (length ps) && eqb ((page ps c).level + 1) level

unfoldable pub children_lower : List Page → ℕ → Bool
children_lower ps p = every (is_lower ps (page ps p).level) (children (page ps p))

-- Rule 3.4: every page that is not free is reached from the root exactly once.
unfoldable pub reached_once : List Page → Small → ℕ → Bool
reached_once ps s p = is_free (page ps p) || eqb (times p (reached ps s)) 1

-- Rule 3.5: and, but for an empty leaf root, it has a count of 1 to 8, an index root at least 2.
abbrev pub least_count : Small → ℕ → ℕ → ℕ
least_count s p level = cond (eqb p s.root) (cond (is_leaf level) 0 2) 1

unfoldable pub count_stands : Small → ℕ → Page → Bool
count_stands s p x = leb (least_count s p x.level) x.count && leb x.count page_entries

-- Rules 3.6, 2.17: leaf boxes and gusts pass 2 and 3, and in a leaf entry all words after the gust are 0.
unfoldable pub leaf_entry_stands : Entry → Bool
leaf_entry_stands e = legal e.place && gust_passes (record { tenths = e.gust }) && all_zero (after_gust e)

-- Rule 3.7: all entries of an index page are exact.
unfoldable pub is_exact : List Page → Entry → Bool
is_exact ps e = same_words (words_of_entry e) (words_of_entry (summary_of e.child (page ps e.child)))

unfoldable pub entries_stand : List Page → Page → Bool
entries_stand ps x = cond (is_leaf x.level) (every leaf_entry_stands (in_use x)) (every (is_exact ps) (in_use x))

-- Rules 3.8, 2.18: unused entries and free pages are all 0.
unfoldable pub page_stands : List Page → Small → ℕ → Page → Bool
page_stands ps s p x =
    cond (is_free x) (all_zero (words_of_page x))
    (count_stands s p x && entries_stand ps x && all_zero (words_of_entries (drop x.count x.entries)))

-- Rules 3.9, 3.10: accepted is at most 1,000,000, and held + struck + covered = accepted.
abbrev pub most_accepted : ℕ
most_accepted = 1_000_000

unfoldable pub counts_stand : Small → ℕ → Bool
counts_stand s held = leb s.accepted most_accepted && eqb (held + s.struck + s.covered) s.accepted

-- All conditions together.
unfoldable pub pages_stand : List Page → Small → Bool
pages_stand ps s =
    root_stands ps s
    && every_below (children_lower ps) (length ps)
    && every_below (reached_once ps s) (length ps)
    && every_below (λ p. page_stands ps s p (page ps p)) (length ps)
    && counts_stand s (length (held_records ps s))

-- Rules 2.1, 3.1: of a table and a small record.
unfoldable pub well_formed : List ℕ → Small → Bool
well_formed t s = table_fits t && pages_stand (pages_of t) s

-- What the check answers: the number of held records, or that the book is damaged.
unfoldable pub checked : List ℕ → Small → Result ℕ Refusal
checked t s = cond (well_formed t s) (Ok (length (held_records (pages_of t) s))) (Err no.Damaged)
