-- Places in the array that holds them.
use Rattle.std.specs.Prelude.{ℕ, ◌-◌, ◌<◌, ◌≤◌, List, ◌++◌, ◌≡◌, length, get_or, replicate}

-- The array: past the places it is 0.
abbrev pub room_of : List ℕ → List ℕ
room_of is = is ++ replicate (9 - length is) 0

-- An array and a count that hold places of the nine.
pub record ArePlaces (at : List ℕ) (count : ℕ) : Type 0 where
  pub few : count ≤ 9
  pub long : length at ≡ 9
  pub within : (k : ℕ) → k < 9 → get_or at k 0 < 9
  pub rest : (k : ℕ) → count ≤ k → get_or at k 0 ≡ 0
