-- What a step down of the walk finds (`step_down`, in proofs/).
use Rattle.std.specs.Prelude.{List, ◌≡◌, ℕ, ◌+◌, ◌≤◌, length}
use Rattle.pages.specs.Summary.{in_use}
use Rattle.pages.specs.declared.Page.{Page}
use Rattle.wellformed.specs.WellFormed.{page}
use Rattle.rules.specs.CameLaws.{Before, Begun}
use Rattle.rules.specs.Recording.{walk_down}
use Rattle.rules.specs.Scan.{Sought}
use Rattle.rules.specs.Strike.{strike_page}

-- A step down of the walk, as code takes it: the child c stands, step 1 leaves it an entry, and the page is found again as it was.
pub record StepDown (n v : ℕ) (ps : List Page) (p : ℕ) (s : Sought) (k c : ℕ) : Type 0 where
  pub before : Before n v ps c s
  pub begun : Begun n v (strike_page n s.box v ps c).pages c s
  pub some : 1 ≤ length (in_use (page (strike_page n s.box v ps c).pages c))
  pub found_again : page (walk_down n v (strike_page n s.box v ps c).pages c s (k + (strike_page n s.box v ps c).records)).pages p ≡ page ps p
