-- The examples of RULES.md that record, by computation on the program's 180 pages.
use Rattle.std.specs.Prelude.{List, [], ◌∷◌, map, ◌≡◌, refl, ℕ, replicate}
use Rattle.ground.specs.Boxes.{join, size, covers, touches}
use Rattle.ground.specs.Cutting.{cut, cuts_on, covers_one_end, left, left_on}
use Rattle.std.proofs.Math.Bool.{xor}
use Rattle.ground.specs.declared.boxes.Box.{Box}
use Rattle.pages.specs.Free.{empty_leaf, empty_small, lowest_from}
use Rattle.pages.specs.Layout.{zero_range, free_page}
use Rattle.pages.specs.Summary.{summary_of, summary, covering, first_greatest, least_of}
use Rattle.pages.specs.declared.Entry.{Entry}
use Rattle.pages.specs.declared.Page.{Page}
use Rattle.pages.specs.declared.Small.{Small}
use Rattle.split.specs.Split.{halves, page_from, begin, seeds, places, pairs, pairs_with, most_wasteful, wastes_more, place_all, place, takes, next, first_most, growths_differ, growth as group_growth, second_takes}
use Rattle.rules.specs.Strike.{select, strike_all, strike_one, strike}
use Rattle.rules.specs.Scan.{candidate, scan_entry, scan}
use Rattle.rules.specs.Recording.{growth, goes_before, least_grown, choose, leaf_entry, split_page, settle, exact_at, come_back, append, go_down, go_on, walk_down, from_root, collapse, Outcome.Kept, Outcome.Cut, Answer, recorded}

-- an empty book of 180 pages, and the answers of records one after another
abbrev empty_pages : List Page
empty_pages = empty_leaf ∷ replicate 179 free_page

pub record Report : Type 0 where
  pub box : Box
  pub gust : ℕ

pub record Run : Type 0 where
  pub answers : List Answer
  pub pages : List Page
  pub small : Small

unfoldable pub run : List Page → Small → List Report → Run
run ps s [] = record { answers = []; pages = ps; small = s }
run ps s (x ∷ xs) =
    let r = recorded ps s x.box x.gust in
    let o = run r.pages r.small xs in
    record { answers = r.answer ∷ o.answers; pages = o.pages; small = o.small }

abbrev row : ℕ → ℕ → Box
row a b = record { east = record { low = a; high = b }; north = zero_range; day = zero_range }

abbrev kept : Answer
kept = record { outcome = Kept; struck = 0 }

-- P: nine records of gust 100, one cell each, north 0, day 0, east 0, 10 .. 80 in order: leaf page 0 holds 0 to 50, page 1 holds 80, 60, 70; root page 2
abbrev cells : List ℕ → List Report
cells xs = map (λ x. record { box = row x x; gust = 100 }) xs

abbrev held : List ℕ → List Entry
held xs = map (λ x. leaf_entry (row x x) 100) xs

abbrev above : ℕ → ℕ → ℕ → ℕ → Entry
above p a b first = record { place = row a b; gust = 100; weakest = 100; child = p; strongest = row first first; union = row first first }

abbrev nine_pages : List Page
nine_pages =
    page_from 1 (held (0 ∷ 10 ∷ 20 ∷ 30 ∷ 40 ∷ 50 ∷ []))
    ∷ page_from 1 (held (80 ∷ 60 ∷ 70 ∷ []))
    ∷ page_from 2 (above 0 0 50 0 ∷ above 1 60 80 80 ∷ [])
    ∷ replicate 177 free_page

abbrev nine_small : Small
nine_small = record { root = 2; height = 2; accepted = 9; struck = 0; covered = 0 }

-- Rule 9.6.
pub nine_in_a_row :
    run empty_pages empty_small (cells (0 ∷ 10 ∷ 20 ∷ 30 ∷ 40 ∷ 50 ∷ 60 ∷ 70 ∷ 80 ∷ []))
    ≡ record { answers = replicate 9 kept; pages = nine_pages; small = nine_small }
unfolding run recorded from_root collapse walk_down go_on go_down append come_back exact_at settle split_page choose least_grown goes_before growth scan scan_entry candidate strike strike_one strike_all select cut cuts_on covers_one_end left left_on xor covers touches join size summary_of summary covering first_greatest least_of lowest_from halves page_from begin seeds places pairs pairs_with most_wasteful wastes_more place_all place takes next first_most growths_differ group_growth second_takes
nine_in_a_row = refl

-- a record over all of them, as strong: the index root is left with no entry and becomes, in its place, a leaf root
pub all_nine_struck :
    recorded nine_pages nine_small (row 0 80) 100
    ≡ record {
      answer = record { outcome = Kept; struck = 9 };
      pages = free_page ∷ free_page ∷ page_from 1 (leaf_entry (row 0 80) 100 ∷ []) ∷ replicate 177 free_page;
      small = record { root = 2; height = 1; accepted = 10; struck = 9; covered = 0 };
    }
unfolding recorded from_root collapse walk_down go_on go_down append come_back exact_at settle split_page choose least_grown goes_before growth scan scan_entry candidate strike strike_one strike_all select cut cuts_on covers_one_end left left_on xor covers touches join size summary_of summary covering first_greatest least_of lowest_from page_from
all_nine_struck = refl

-- a record over the first group: the root is left with one entry, and its child becomes the root
pub root_collapses :
    recorded nine_pages nine_small (row 0 55) 100
    ≡ record {
      answer = record { outcome = Kept; struck = 6 };
      pages = free_page ∷ page_from 1 (leaf_entry (row 80 80) 100 ∷ leaf_entry (row 60 60) 100 ∷ leaf_entry (row 70 70) 100 ∷ leaf_entry (row 0 55) 100 ∷ []) ∷ free_page ∷ replicate 177 free_page;
      small = record { root = 1; height = 1; accepted = 10; struck = 6; covered = 0 };
    }
unfolding recorded from_root collapse walk_down go_on go_down append come_back exact_at settle split_page choose least_grown goes_before growth scan scan_entry candidate strike strike_one strike_all select cut cuts_on covers_one_end left left_on xor covers touches join size summary_of summary covering first_greatest least_of lowest_from page_from
root_collapses = refl

-- the first error that looks right: held east 10 to 19, new 10 to 29, equal gusts. The held one cuts from the index page, and the new one, as cut, does not strike it in its leaf.
abbrev incident_pages : List Entry → List Page
incident_pages more =
    page_from 1 (leaf_entry (row 10 19) 100 ∷ leaf_entry (row 100 100) 50 ∷ leaf_entry (row 200 200) 50 ∷ leaf_entry (row 500 500) 50 ∷ more)
    ∷ page_from 1 (leaf_entry (row 800 800) 50 ∷ leaf_entry (row 600 600) 50 ∷ leaf_entry (row 700 700) 50 ∷ [])
    ∷ page_from 2 (
    record { place = row 10 500; gust = 100; weakest = 50; child = 0; strongest = row 10 19; union = row 10 19 }
    ∷ record { place = row 600 800; gust = 50; weakest = 50; child = 1; strongest = row 800 800; union = row 800 800 }
    ∷ [])
    ∷ replicate 177 free_page

pub cut_from_the_index :
    recorded (incident_pages []) (record { root = 2; height = 2; accepted = 7; struck = 0; covered = 0 }) (row 10 29) 100
    ≡ record {
      answer = record { outcome = Cut; struck = 0 };
      pages = incident_pages (leaf_entry (row 20 29) 100 ∷ []);
      small = record { root = 2; height = 2; accepted = 8; struck = 0; covered = 0 };
    }
unfolding recorded from_root collapse walk_down go_on go_down append come_back exact_at settle split_page choose least_grown goes_before growth scan scan_entry candidate strike strike_one strike_all select cut cuts_on covers_one_end left left_on xor covers touches join size summary_of summary covering first_greatest least_of lowest_from page_from
cut_from_the_index = refl
