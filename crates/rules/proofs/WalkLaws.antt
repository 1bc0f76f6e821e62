-- The law of the whole walk, by induction on the levels.
use Rattle.std.specs.Prelude.{Bool, true, false, List, ◌≡◌, refl, ℕ, zero, suc, ◌≤◌, length}
use Rattle.std.proofs.Common.{arith}
use Rattle.pages.specs.Summary.{in_use}
use Rattle.pages.specs.declared.Page.{Page}
use Rattle.wellformed.specs.WellFormed.{page}
use Rattle.rules.specs.CameLaws.{CameFrom, Before, Begun, covered_law, strike_begun}
use Rattle.rules.specs.IndexLaws.{LowerLaw, chosen, go_down_law, down_before, down_not_empty, found_again}
use Rattle.rules.specs.LeafLaws.{append_law}
use Rattle.rules.specs.Recording.{Walk, append, go_down, unless_covered, go_on, walk_down}
use Rattle.rules.specs.Scan.{Sought, scan}
use Rattle.rules.specs.WalkLaws.{StepDown}

-- covered, or step 4
on_law : (n v : ℕ) (next : Walk) (ps : List Page) (p : ℕ) (s : Sought) (k : ℕ) → Before n v ps p s
    → ((scan n v (in_use (page ps p)) s).is_covered ≡ false → CameFrom n v ps p s k (next ps p (scan n v (in_use (page ps p)) s) k)) → CameFrom n v ps p s k (go_on n v next ps p s k)
unfolding go_on
on_law n v next ps p s k h f = by_test (scan n v (in_use (page ps p)) s).is_covered refl
  where
    by_test : (o : Bool) → (scan n v (in_use (page ps p)) s).is_covered ≡ o → CameFrom n v ps p s k (unless_covered o next ps p (scan n v (in_use (page ps p)) s) k)
    by_test true o = covered_law n v ps p s k h o
    by_test false o = f o

pub walk_law : (n v : ℕ) → LowerLaw n v (walk_down n v)
unfolding walk_down
walk_law zero v ps p s k b some = on_law zero v (append v) ps p s k b.before (append_law v ps p s k b.before)
walk_law (suc n) v ps p s k b some =
    on_law (suc n) v (go_down n v (walk_down n v)) ps p s k b.before (λ o. go_down_law n v ps p s b (some (omega arith)) o (walk_down n v) (walk_law n v) k)

pub step_down : (n v : ℕ) (ps : List Page) (p : ℕ) (s : Sought) (k : ℕ) → Begun (suc n) v ps p s → 1 ≤ length (in_use (page ps p)) → (scan (suc n) v (in_use (page ps p)) s).is_covered ≡ false
    → StepDown n v ps p (scan (suc n) v (in_use (page ps p)) s) k (chosen ps p (scan (suc n) v (in_use (page ps p)) s))
step_down n v ps p s k b some o =
    let t = scan (suc n) v (in_use (page ps p)) s in
    let h = down_before n v ps p s b some o in
    record {
      before = h;
      begun = strike_begun n v ps (chosen ps p t) t h;
      some = down_not_empty n v ps p s b some o;
      found_again = found_again n v ps p s b some o (walk_down n v) (walk_law n v) k;
    }
