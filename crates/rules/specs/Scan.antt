-- RULES.md, section 4, step 3: the candidates, each of which meets b as already cut.
use Rattle.std.specs.Prelude.{ℕ, zero, suc, Bool, true, false, List, [], ◌∷◌, leb}
use Rattle.ground.specs.Cutting.{cut}
use Rattle.ground.specs.declared.boxes.Box.{Box}
use Rattle.ground.specs.declared.boxes.Cut.{Cut}
use Rattle.ground.specs.declared.boxes.Cut.TheVariants.{Covered, Left, Unchanged}
use Rattle.pages.specs.declared.Entry.{Entry}

-- Rule 4.2: what is being recorded: b as already cut, whether it was cut, and whether a candidate covers it.
pub record Sought : Type 0 where
  pub box : Box
  pub is_cut : Bool
  pub is_covered : Bool

abbrev pub handed_in : Box → Sought
handed_in b = record { box = b; is_cut = false; is_covered = false }

-- Rules 4.34, 4.36: if a candidate covers b, the record is Covered; if it cuts b, b is what is left.
abbrev pub met : Cut → Sought → Sought
met Covered s = record { box = s.box; is_cut = s.is_cut; is_covered = true }
met (Left b) s = record { box = b; is_cut = true; is_covered = s.is_covered }
met Unchanged s = s

-- Rule 4.34: a box is a candidate if its gust is at least v. Covered ends the walk: no later candidate is met.
abbrev pub meets : Bool → Bool → Box → Sought → Sought
meets true c x s = s
meets false true x s = met (cut x s.box) s
meets false false x s = s

unfoldable pub candidate : Bool → Box → Sought → Sought
candidate is_one x s = meets s.is_covered is_one x s

-- Rules 4.32, 4.33: a leaf box if its gust ≥ v; of an index entry first the strongest box if the strongest gust ≥ v, then the union box if the weakest gust ≥ v.
unfoldable pub scan_entry : ℕ → ℕ → Entry → Sought → Sought
scan_entry zero v e s = candidate (leb v e.gust) e.place s
scan_entry (suc n) v e s = candidate (leb v e.weakest) e.union (candidate (leb v e.gust) e.strongest s)

-- Rule 4.31: the entries in order, once.
unfoldable pub scan : ℕ → ℕ → List Entry → Sought → Sought
scan n v [] s = s
scan n v (e ∷ es) s = scan n v es (scan_entry n v e s)
