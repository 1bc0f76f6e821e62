-- What a record leaves at the root, before it is put right (`root_law`, in proofs/).
use Rattle.std.specs.Prelude.{List, ℕ, suc, ◌≤◌}
use Rattle.pages.specs.declared.Page.{Page}
use Rattle.wellformed.specs.WellFormed.{page}
use Rattle.rules.specs.CameLaws.{Came}
use Rattle.rules.specs.Frame.{root_load, root_records}
use Rattle.rules.specs.Recording.{Walked, Rooted}
use Rattle.rules.specs.RootLaws.{Grown}
use Rattle.rules.specs.Scan.{Sought}

pub record GrownTo (n v : ℕ) (ps : List Page) (r : ℕ) (s : Sought) (w : Walked) (t : Rooted) : Type 0 where
  pub levels : ℕ
  pub most : levels ≤ suc n
  pub grown : Grown n v ps r s.box w.struck w.sought t.pages t.root levels

-- what came of the root page, with no more levels under it than before
pub record RootCame (n v : ℕ) (ps : List Page) (r : ℕ) (s : Sought) (w : Walked) : Type 0 where
  pub levels : ℕ
  pub few : levels ≤ n
  pub came : Came levels v ps r (root_load ps n r) (root_records ps n r) s 0 w
