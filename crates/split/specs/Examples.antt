-- The split of rule 9.6, by computation.
use Rattle.std.specs.Prelude.{List, [], ◌∷◌, map, ◌≡◌, refl, ℕ}
use Rattle.ground.specs.Boxes.{join, size}
use Rattle.pages.specs.Layout.{zero_box, zero_range}
use Rattle.pages.specs.declared.Entry.{Entry}
use Rattle.split.specs.Split.{halves, begin, seeds, places, pairs, pairs_with, most_wasteful, wastes_more, place_all, place, takes, next, first_most, growths_differ, growth, second_takes}

-- a record of gust 100 of one cell, north 0, day 0
abbrev one_cell : ℕ → Entry
one_cell x =
    record {
      place = record { east = record { low = x; high = x }; north = zero_range; day = zero_range };
      gust = 100;
      weakest = 0;
      child = 0;
      strongest = zero_box;
      union = zero_box;
    }

abbrev cells : List ℕ → List Entry
cells xs = map one_cell xs

-- Rule 9.6, P: nine such records, east 0, 10 .. 80 in order: the first group holds 0 to 50, the second 80, 60, 70
pub nine_in_a_row : halves (cells (0 ∷ 10 ∷ 20 ∷ 30 ∷ 40 ∷ 50 ∷ 60 ∷ 70 ∷ 80 ∷ [])) ≡ record { first = cells (0 ∷ 10 ∷ 20 ∷ 30 ∷ 40 ∷ 50 ∷ []); second = cells (80 ∷ 60 ∷ 70 ∷ []) }
unfolding halves begin seeds places pairs pairs_with most_wasteful wastes_more place_all place takes next first_most growths_differ growth second_takes join size
nine_in_a_row = refl
