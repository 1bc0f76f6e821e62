-- Step 2: a root all of whose entries are struck becomes, in its place, an empty leaf root.
use Rattle.std.specs.Prelude.{false, ◌≡◌, ℕ, ◌+◌, set}
use mathlib.Core.List.{List, [], flat_map}
use Rattle.std.proofs.Math.Path.{sym, ap, subst}
use Rattle.std.proofs.Common.{◌∙◌}
use native.Mathlib.Omega.{arith}
use Rattle.pages.specs.Summary.{in_use}
use Rattle.pages.specs.declared.Entry.{Entry}
use Rattle.pages.specs.declared.Page.{Page}
use Rattle.split.specs.Split.{page_from}
use Rattle.split.specs.SplitLaws.{weigh, Each}
use Rattle.wellformed.specs.WellFormed.{page}
use Rattle.rules.specs.CameLaws.{Came, CameFrom, Before, Begun, came_after}
use Rattle.rules.specs.Frame.{loads, root_load, root_records}
use Rattle.rules.specs.Lists.{best_of}
use Rattle.rules.specs.Moves.{only, Pages, Apart, Moved, moved_apart, beside, again, write}
use Rattle.rules.specs.Recording.{Walked}
use Rattle.rules.specs.Scan.{Sought}
use Rattle.rules.specs.SettleLaws.{handle_load, handle_records, in_use_not_free, put_entries, put_stands, put_load, put_records}
use Rattle.rules.specs.Strike.{is_struck}
use Rattle.rules.specs.StrikeLaws.{standing}
use Rattle.rules.specs.Tree.{records, hit, Sound}

module _ (n v : ℕ) (ps : List Page) (r : ℕ) (s : Sought) (h : Before n v ps r s) (none : in_use (page ps r) ≡ []) where
  us : List Page
  us = set ps r (page_from 1 [])

  own : Pages
  own g = g r

  no_load : (g : ℕ → ℕ) → root_load ps n r g ≡ own g + loads ps 0 [] g
  unfolding weigh own
  no_load g = ap (λ (l : List Entry). g r + loads ps n l g) none

  no_records : root_records ps n r ≡ []
  unfolding flat_map
  no_records = ap (λ (l : List Entry). flat_map (records ps n) l) none

  written : Moved ps us own own 0
  unfolding us own
  written = write ps r (page_from 1 []) h.stands.inside (standing ps n r (Sound ps n) h.stands) (in_use_not_free 0 [])

  apart : Apart ps (λ g. own g + loads ps 0 [] g)
  apart q = let a = h.apart q in let b = no_load (only q) in omega arith

  leaf_none : in_use (page us r) ≡ []
  unfolding us own
  leaf_none = put_entries 0 ps r [] h.stands.inside own 0 written apart tt (omega arith)

  leaf_load : (g : ℕ → ℕ) → root_load us 0 r g ≡ own g + loads ps 0 [] g
  unfolding us own
  leaf_load g = sym (handle_load us 0 r g) ∙ put_load 0 ps r [] h.stands.inside own 0 written apart tt (omega arith) g

  leaf_records : root_records us 0 r ≡ []
  unfolding us own flat_map
  leaf_records = sym (handle_records us 0 r) ∙ put_records 0 ps r [] h.stands.inside own 0 written apart tt (omega arith)

  moved : Moved ps us (root_load ps n r) (root_load us 0 r) 0
  moved =
      again ps us (λ g. own g + loads ps 0 [] g) (λ g. own g + loads ps 0 [] g) 0 (beside ps us own own 0 written (loads ps 0 [])) (root_load ps n r) (root_load us 0 r) no_load leaf_load

  pub leaf_begun : Begun 0 v (set ps r (page_from 1 [])) r s
  unfolding us own
  leaf_begun =
      record {
        before =
            record {
              stands = put_stands 0 ps r [] h.stands.inside own 0 written apart tt (omega arith);
              apart = moved_apart ps us (root_load ps n r) (root_load us 0 r) 0 moved h.apart;
              lawful = h.lawful;
              passes = h.passes;
              fresh = h.fresh;
              room = let a = moved.spent in let b = h.room in omega arith;
            };
        unstruck = subst (Each (λ e. is_struck s.box v e ≡ false)) (sym leaf_none) tt;
      }

  pub leaf_then : (k : ℕ) (w : Walked) → CameFrom 0 v (set ps r (page_from 1 [])) r s k w → Came 0 v ps r (root_load ps n r) (root_records ps n r) s k w
  unfolding us weigh
  leaf_then k w c =
      let z : k ≡ k + 0 = omega arith in
      came_after 0 v ps us r (root_load ps n r) (root_load us 0 r) (root_records ps n r) (root_records us 0 r) [] s k w moved
      (λ g. let a = ap (weigh g) leaf_records in let b = ap (weigh g) no_records in omega arith)
      (λ q. let a = ap (best_of (hit q)) leaf_records in let b = ap (best_of (hit q)) no_records in omega arith)
      (subst (λ (j : ℕ). CameFrom 0 v us r s j w) z c)
