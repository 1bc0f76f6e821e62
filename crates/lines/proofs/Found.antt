-- The first place of a byte in a list, or that it has none.
use Rattle.std.proofs.Common.{◌≡◌, ℕ, ◌<◌, ◌≤◌, Bool, true, false, cond, List, length, ltb, Option, Some, None, refl, ltb-true, ltb-false, position}
use Rattle.std.specs.List.{position_or_len}

module _ (p : ℕ → Bool) (xs : List ℕ) where
  pub found_at : (i : ℕ) → position p xs ≡ Some i → (i < length xs) × (position_or_len p xs ≡ i)
  found_at i e = by_test (ltb (position_or_len p xs) (length xs)) refl e
    where
      by_test : (t : Bool) → ltb (position_or_len p xs) (length xs) ≡ t → cond t (Some (position_or_len p xs)) None ≡ Some i → (i < length xs) × (position_or_len p xs ≡ i)
      by_test true less is =
          let same : position_or_len p xs ≡ i = cc in
          (rw same at (ltb-true (position_or_len p xs) (length xs) less), same)
      by_test false less is = cc

  pub found_nowhere : position p xs ≡ None → length xs ≤ position_or_len p xs
  found_nowhere e = by_test (ltb (position_or_len p xs) (length xs)) refl e
    where
      by_test : (t : Bool) → ltb (position_or_len p xs) (length xs) ≡ t → ◌≡◌ {A = Option ℕ} (cond t (Some (position_or_len p xs)) None) None → length xs ≤ position_or_len p xs
      by_test true less is = cc
      by_test false less is = ltb-false (position_or_len p xs) (length xs) less
