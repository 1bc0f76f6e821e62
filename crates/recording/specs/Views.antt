-- How the code's values and tables are read as those of the definitions.
use Rattle.std.specs.Prelude.{None, Some, Option, ℕ, ◌+◌, min, List, ◌≡◌, length}
use Rattle.pages.specs.Layout.{pages_of}
use Rattle.pages.specs.declared.Page.{Page}
use Rattle.wellformed.specs.WellFormed.{most_accepted}
use Rattle.recording.specs.declared.scan.Sought as code-sought
use Rattle.recording.specs.declared.walk.Walked as code-walked
use Rattle.rules.specs.Strike.{Struck}
use Rattle.rules.specs.Scan.{Sought}
use Rattle.rules.specs.Recording.{Became, Became.stands, Became.split, Walked}

-- A table left with these pages, as long as it was.
pub record Leaves (before after : List ℕ) (ps : List Page) : Type 0 where
  pub same_length : length after ≡ length before
  pub pages_are : pages_of after ≡ ps

-- The struck count stops at 1,000,000: no book that is well-formed holds more, and a spoilt one may name a page more than once.
abbrev pub most_struck : ℕ
most_struck = most_accepted

-- Pages freed, and the records among them counted.
pub record Frees (before after : List ℕ) (r : ℕ) (s : Struck) : Type 0 where
  pub same_length : length after ≡ length before
  pub pages_are : pages_of after ≡ s.pages
  pub struck_is : r ≡ min s.records most_struck

abbrev pub sought_of : code-sought.Sought → Sought
sought_of s = record { box = s.place; is_cut = s.cut; is_covered = s.covered }

abbrev pub became_of : Option ℕ → Became
became_of None = stands
became_of (Some q) = split q

-- What a walk leaves and hands back.
pub record Walks (before after : List ℕ) (r : code-walked.Walked) (w : Walked) : Type 0 where
  pub same_length : length after ≡ length before
  pub pages_are : pages_of after ≡ w.pages
  pub became_is : became_of r.became ≡ w.became
  pub sought_is : sought_of r.sought ≡ w.sought
  pub struck_is : r.struck ≡ min w.struck most_struck

-- The same, where k is what the code has counted of the records struck before.
pub record WalksOn (before after : List ℕ) (k : ℕ) (r : code-walked.Walked) (walk : ℕ → Walked) : Type 0 where
  pub same_length : length after ≡ length before
  pub walks : (m : ℕ) → k ≡ min m most_struck → Walks before after r (walk m)
