-- The record from the root: however the root goes on, the tree has grown by the record.
use Rattle.std.specs.Prelude.{Option, List, [], ◌∷◌, ◌≡◌, ℕ, suc, ◌+◌, ◌≤◌, length, set}
use Rattle.std.proofs.Math.Path.{refl}
use Rattle.std.proofs.Common.{sym, ap, ◌∙◌, subst, add-one, arith}
use Rattle.pages.specs.Free.{free_count, lowest_free}
use Rattle.pages.specs.FreeLaws.{lowest_at, lowest_found}
use Rattle.pages.specs.Summary.{in_use}
use Rattle.pages.specs.declared.Entry.{Entry}
use Rattle.pages.specs.declared.Page.{Page}
use Rattle.split.specs.Split.{page_from}
use Rattle.split.specs.SplitLaws.{Each}
use Rattle.wellformed.specs.WellFormed.{page}
use Rattle.rules.specs.CameLaws.{Came, Before, strike_begun, strike_then}
use Rattle.rules.specs.EmptyRoot.{leaf_begun, leaf_then}
use Rattle.rules.specs.Frame.{root_load, root_records}
use Rattle.rules.specs.Moves.{Pages}
use Rattle.rules.specs.Recording.{Became, Became.stands, Became.split, Walked, new_root_at, put_root_right, walk_down, leaf_if_empty, from_root}
use Rattle.rules.specs.RootLaws.{Grown, stands_grown, split_root}
use Rattle.rules.specs.Scan.{Sought}
use Rattle.rules.specs.SettleLaws.{handle, alone, Handles}
use Rattle.rules.specs.Strike.{strike_page}
use Rattle.rules.specs.Tree.{Sound, level_of}
use Rattle.rules.proofs.WalkLaws.{walk_law}
use Rattle.rules.specs.FromRoot.{GrownTo, RootCame}

-- what has grown, with no more levels than one more
-- a count from 0 on
from_zero : (m v : ℕ) (ps : List Page) (r : ℕ) (own : Pages) (held : List Entry) (s : Sought) (k : ℕ) (w : Walked) → Came m v ps r own held s k w → Came m v ps r own held s (0 + k) w
from_zero m v ps r own held s k w c = let z : k ≡ 0 + k = omega arith in subst (λ (j : ℕ). Came m v ps r own held s j w) z c

-- the page that the first entry stands for, with its level
first_level : (qs : List Page) (n r : ℕ) (hs more : List Entry) → Each (Sound qs (suc n)) hs → hs ≡ handle qs r ∷ more → (page qs r).level ≡ suc n
first_level qs n r hs more h e =
    let x : Each (Sound qs (suc n)) (handle qs r ∷ more) = subst (Each (Sound qs (suc n))) e h in
    level_of qs n r (Sound qs n) (alone qs n r x.0).tree

module _ (n v : ℕ) (ps : List Page) (r : ℕ) (s : Sought) (h : Before n v ps r s) where
  module _ (room : suc (suc n) ≤ free_count ps) (w : Walked) (x : RootCame n v ps r s w) where
    m : ℕ
    m = x.levels

    c : Came m v ps r (root_load ps n r) (root_records ps n r) s 0 w
    unfolding m
    c = x.came

    few : m ≤ n
    unfolding m
    few = x.few

    new_root : (q : ℕ) → c.handles ≡ handle w.pages r ∷ handle w.pages q ∷ [] → GrownTo n v ps r s w (new_root_at (lowest_free w.pages) w.pages r q)
    new_root q e =
        let f = lowest_found w.pages (let a = c.moved.spent in let b = few in omega arith) in
        let g = split_root n v ps r s w m few c q e f.0 (lowest_at w.pages f.0 f.1) h.apart in
        let l : (page w.pages r).level + 1 ≡ suc (suc m) = add-one (page w.pages r).level ∙ ap suc (first_level w.pages m r c.handles (handle w.pages q ∷ []) c.sound e) in
        let at : (j : ℕ) → j ≡ suc (suc m) → GrownTo n v ps r s w (record { pages = set w.pages f.0 (page_from j (handle w.pages r ∷ handle w.pages q ∷ [])); root = f.0 }) =
        λ j d. record {
          levels = suc m;
          most = omega (arith, few);
          grown = subst (λ (k : ℕ). Grown n v ps r s.box w.struck w.sought (set w.pages f.0 (page_from k (handle w.pages r ∷ handle w.pages q ∷ []))) f.0 (suc m)) (sym d) g;
        } in
        subst (λ (x : Option ℕ). GrownTo n v ps r s w (new_root_at x w.pages r q)) (sym f.1) (at ((page w.pages r).level + 1) l)

    by_became : (o : Became) → Handles w.pages r o c.handles → GrownTo n v ps r s w (put_root_right o w.pages r)
    by_became stands e = record { levels = m; most = omega (arith, few); grown = stands_grown n v ps r s w m few c e }
    by_became (split q) e = new_root q e

  level_by : (w : Walked) (m : ℕ) → m ≤ n → (c : Came m v ps r (root_load ps n r) (root_records ps n r) s 0 w) → (o : Became) → Handles w.pages r o c.handles → (page w.pages r).level ≤ suc n
  level_by w m few c stands e = let l = first_level w.pages m r c.handles [] c.sound e in omega arith
  level_by w m few c (split q) e = let l = first_level w.pages m r c.handles (handle w.pages q ∷ []) c.sound e in omega arith

  -- step 2: either root that goes on
  by_left : (es : List Entry) → in_use (page (strike_page n s.box v ps r).pages r) ≡ es
      → RootCame n v ps r s (leaf_if_empty es n v (strike_page n s.box v ps r).pages r s (strike_page n s.box v ps r).records)
  by_left [] e =
      let x = strike_page n s.box v ps r in
      let b = (strike_begun n v ps r s h).before in
      let w = walk_down 0 v (set x.pages r (page_from 1 [])) r s x.records in
      record {
        levels = 0;
        few = omega arith;
        came =
            strike_then n v ps r s h 0 0 w
            (from_zero 0 v x.pages r (root_load x.pages n r) (root_records x.pages n r) s x.records w
            (leaf_then n v x.pages r s b e x.records w (walk_law 0 v (set x.pages r (page_from 1 [])) r s x.records (leaf_begun n v x.pages r s b e) (λ l. absurd (omega arith)))));
      }
  by_left (e ∷ es) d =
      let x = strike_page n s.box v ps r in
      let w = walk_down n v x.pages r s x.records in
      record {
        levels = n;
        few = omega arith;
        came =
            strike_then n v ps r s h n 0 w
            (from_zero n v x.pages r (root_load x.pages n r) (root_records x.pages n r) s x.records w
            (walk_law n v x.pages r s x.records (strike_begun n v ps r s h) (λ l. let k = ap length d in omega arith)));
      }

  root_came : RootCame n v ps r s (from_root n v ps r s)
  unfolding from_root
  root_came = by_left (in_use (page (strike_page n s.box v ps r).pages r)) refl

  pub root_law : suc (suc n) ≤ free_count ps → GrownTo n v ps r s (from_root n v ps r s) (put_root_right (from_root n v ps r s).became (from_root n v ps r s).pages r)
  root_law room = by_became room (from_root n v ps r s) root_came (from_root n v ps r s).became (unfold c m in root_came.came.shape)

  -- the root page's level does not rise
  pub root_level : (page (from_root n v ps r s).pages r).level ≤ suc n
  root_level = level_by (from_root n v ps r s) root_came.levels root_came.few root_came.came (from_root n v ps r s).became root_came.came.shape
