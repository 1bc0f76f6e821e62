-- The whole program: all that it hands to the writer is the answers to the lines of all that it reads, from an empty book of 180 pages.
use Rattle.std.specs.Prelude.{ℕ, ◌*◌, List, ◌≡◌, refl, replicate}
use Rattle.pages.specs.Layout.{page_words}
use Rattle.serving.specs.Serving.{Ran}
use Rattle.serving.specs.declared.Ending.{Ending}

-- A page table of 180 empty pages.
abbrev pub table : List ℕ
table = replicate 30_600 0

pub pages_180 : 30_600 ≡ 180 * page_words
pages_180 = refl

-- Some table is left and the turns end somehow, as a run promises (`Ran`).
pub record WholeRun : Type 0 where
  pub left : List ℕ
  pub ending : Ending
  pub ran : Ran table left ending
