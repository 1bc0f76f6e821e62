-- RULES.md, section 2: free pages, and the empty book.
use Rattle.std.specs.Prelude.{Some, None, Option, ℕ, suc, ◌+◌, Bool, cond, List, [], ◌∷◌, eqb, length, set, replicate}
use Rattle.pages.specs.Layout.{zero_entry, page_entries}
use Rattle.pages.specs.declared.Small.{Small}
use Rattle.pages.specs.declared.Page.{Page}

-- Rule 2.11: a page of level 0 is free.
abbrev pub is_free : Page → Bool
is_free x = eqb x.level 0

-- The free page of the lowest number, counted from n.
unfoldable pub lowest_from : ℕ → List Page → Option ℕ
lowest_from n [] = None
lowest_from n (x ∷ xs) = cond (is_free x) (Some n) (lowest_from (suc n) xs)

abbrev pub lowest_free : List Page → Option ℕ
lowest_free xs = lowest_from 0 xs

-- How many pages are free.
abbrev pub count_free : Page → ℕ
count_free x = cond (is_free x) 1 0

unfoldable pub free_count : List Page → ℕ
free_count [] = 0
free_count (x ∷ xs) = count_free x + free_count xs

-- Rules 2.31, 2.32, 2.33: an empty book has page 0 as a leaf root of count 0, all other words 0, height 1 and all counts 0. Clearing makes it, whatever the table held.
abbrev pub empty_leaf : Page
empty_leaf = record { level = 1; count = 0; entries = replicate page_entries zero_entry }

unfoldable pub empty_table : List ℕ → List ℕ
empty_table t = set (replicate (length t) 0) 0 1

-- Rules 2.4, 2.32.
abbrev pub empty_small : Small
empty_small = record { root = 0; height = 1; accepted = 0; struck = 0; covered = 0 }
