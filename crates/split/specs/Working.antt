-- What the code's own values stand for. No promise to the storeys above speaks of them.
use Rattle.std.specs.Prelude.{Bool, ltb, List, ◌≡◌, ℕ, ◌<◌, length, get_or, replicate}
use Rattle.ground.specs.declared.boxes.Box.{Box}
use Rattle.ground.specs.Boxes.{size}
use Rattle.pages.specs.Layout as layout
use Rattle.pages.specs.declared.Page.{Page}
use Rattle.split.specs.Split.{Pair, cover_size, both_sizes, Groups, box_at, growth, growths_differ, next, less_or_tie, place_all}
use Rattle.split.specs.declared.seeds.Seeds.{Seeds}
use Rattle.split.specs.declared.placing.Choice.{Choice}

-- a pair, and one with its two numbers
abbrev pub pair : ℕ → ℕ → Pair
pair i j = record { first = i; second = j }

abbrev pub pair_of : Seeds → Pair
pair_of s = pair s.first s.second

pub record Weighed (bs : List Box) (s : Seeds) : Type 0 where
  pub cover : s.cover ≡ cover_size bs (pair_of s)
  pub both : s.both ≡ both_sizes bs (pair_of s)

-- a choice among the unplaced, and the one that the rule takes
unfoldable pub choice_of : Groups → Box → ℕ → Choice
choice_of s b at = record { at = at; first = growth s.first b; second = growth s.second b; differ = growths_differ s b }

unfoldable pub chosen : List Box → Groups → Choice
chosen bs s = choice_of s (box_at bs (get_or s.unplaced (next bs s) 0)) (next bs s)

-- rule 4.59 of a choice: whether it goes to the second group
abbrev pub to_second : Groups → Choice → Bool
to_second s c = less_or_tie c.second c.first (less_or_tie (size s.second.cover) (size s.first.cover) (ltb (length s.second.members) (length s.first.members)))

-- one step of placing all
pub record Onward (bs : List Box) (s t : Groups) : Type 0 where
  pub same : place_all bs (length t.unplaced) t ≡ place_all bs (length s.unplaced) s
  pub fewer : length t.unplaced < length s.unplaced

abbrev pub empty_page : ℕ → ℕ → Page
empty_page level count = record { level = level; count = count; entries = replicate layout.page_entries layout.zero_entry }
