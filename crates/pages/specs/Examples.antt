-- Examples, each by computation.
use Rattle.std.specs.Prelude.{Some, List, [], ◌∷◌, ◌≡◌, refl, ℕ, replicate}
use Rattle.ground.specs.Boxes.{join, size}
use Rattle.ground.specs.declared.boxes.Box.{Box}
use Rattle.pages.specs.declared.Entry.{Entry}
use Rattle.pages.specs.declared.Page.{Page}
use Rattle.pages.specs.Layout.{box_at, entry_at, entries_of, page_of, page_at, words_of_box, words_of_entry, words_of_entries, words_of_page, put_page, cut_pages, pages_of, zero_box, zero_entry}
use Rattle.pages.specs.Summary.{covering, first_greatest, least_of, summary, summary_of}
use Rattle.pages.specs.Free.{lowest_from, lowest_free, empty_table}

-- one row of squares on one day
abbrev row : ℕ → ℕ → Box
row a b = record { east = record { low = a; high = b }; north = record { low = 0; high = 0 }; day = record { low = 0; high = 0 } }

abbrev leaf_entry : Box → ℕ → Entry
leaf_entry b v = record { place = b; gust = v; weakest = 0; child = 0; strongest = zero_box; union = zero_box }

-- four records: the second and third tie for the strongest, the first and third for the largest
abbrev leaf : Page
leaf =
    record {
      level = 1;
      count = 4;
      entries =
          leaf_entry (row 0 9) 100
          ∷ leaf_entry (row 20 24) 300
          ∷ leaf_entry (row 30 39) 300
          ∷ leaf_entry (row 50 50) 200
          ∷ zero_entry
          ∷ zero_entry
          ∷ zero_entry
          ∷ zero_entry
          ∷ [];
    }

-- ties go to the lower place; the union box is the largest of the boxes, and no box that covers them
abbrev leaf_summary : Entry
leaf_summary = record { place = row 0 50; gust = 300; weakest = 100; child = 7; strongest = row 20 24; union = row 0 9 }

pub leaf_summed : summary_of 7 leaf ≡ leaf_summary
unfolding summary_of summary covering first_greatest least_of join size
leaf_summed = refl

-- above leaves the candidates are the entries' strongest boxes, weakest gusts and union boxes
abbrev above : Page
above =
    record {
      level = 2;
      count = 2;
      entries = leaf_summary ∷ record { place = row 40 90; gust = 300; weakest = 50; child = 8; strongest = row 60 90; union = row 60 90 } ∷ replicate 6 zero_entry;
    }

pub above_summed : summary_of 9 above ≡ record { place = row 0 90; gust = 300; weakest = 50; child = 9; strongest = row 20 24; union = row 60 90 }
unfolding summary_of summary covering first_greatest least_of join size
above_summed = refl

-- the program's table of 180 pages: cleared, and with a page put
abbrev cleared : List ℕ
cleared = empty_table (replicate 30_600 0)

pub first_free : lowest_free (pages_of cleared) ≡ Some 1
unfolding empty_table pages_of cut_pages page_of entries_of entry_at box_at lowest_from
first_free = refl

pub then_free : lowest_free (pages_of (put_page cleared 1 leaf)) ≡ Some 2
unfolding empty_table put_page words_of_page words_of_entries words_of_entry words_of_box pages_of cut_pages page_of entries_of entry_at box_at lowest_from
then_free = refl

pub read_back : summary_of 7 (page_at (put_page cleared 179 leaf) 179) ≡ leaf_summary
unfolding empty_table put_page words_of_page words_of_entries words_of_entry words_of_box page_at page_of entries_of entry_at box_at summary_of summary covering first_greatest least_of join size
read_back = refl
