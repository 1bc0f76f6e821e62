-- With the old second half of step 2, every page, the small record and the answer are as they are without it.
use Rattle.std.specs.Prelude.{Bool, true, false, List, [], ◌∷◌, ◌≡◌, refl, ℕ, zero, suc, ◌+◌, ◌-◌, ◌≤◌, length, get_or}
use Rattle.std.proofs.Common.{sym, ap, ◌∙◌, subst, arith}
use Rattle.ground.specs.declared.boxes.Box.{Box}
use Rattle.pages.specs.Layout.{pages_of, zero_entry}
use Rattle.pages.specs.Summary.{in_use}
use Rattle.pages.specs.declared.Entry.{Entry}
use Rattle.pages.specs.declared.Page.{Page}
use Rattle.pages.specs.declared.Small.{Small}
use Rattle.wellformed.specs.WellFormed.{page}
use Rattle.rules.proofs.Book.{before}
use Rattle.rules.specs.CameLaws.{Before, Begun, strike_begun}
use Rattle.rules.specs.FromWellFormed.{book}
use Rattle.rules.specs.RecordLaws.{Accepted, conditions_of}
use Rattle.rules.specs.Recording.{choose, go_down, unless_covered, go_on, walk_down, leaf_if_empty, from_root, put_right, recorded}
use Rattle.rules.specs.Scan.{Sought, handed_in, scan}
use Rattle.rules.specs.Strike.{strike_page}
use Rattle.rules.proofs.WalkLaws.{step_down}
use Rattle.rules.specs.OldRuleTwo.{OldWalked, OldWalked.done, OldWalked.again, OldWalk, old_back, old_rule_two, old_down, old_unless_covered, old_walk, old_leaf_if_empty, start_again, old_from_root, old_recorded}

-- No page below the root is left with no entry, so no record starts again.
some_left : (es : List Entry) (lower : OldWalk) (p i c : ℕ) (ps : List Page) (s : Sought) (k : ℕ) → 1 ≤ length es → old_rule_two es lower p i c ps s k ≡ old_back p i (lower ps c s k)
some_left [] lower p i c ps s k h = absurd (omega arith)
some_left (e ∷ es) lower p i c ps s k h = refl

old_walk_lem : (n v : ℕ) (ps : List Page) (p : ℕ) (s : Sought) (k : ℕ) → Begun n v ps p s → (1 ≤ n → 1 ≤ length (in_use (page ps p))) → old_walk n v ps p s k ≡ done (walk_down n v ps p s k)
unfolding old_walk walk_down go_on old_down go_down
old_walk_lem zero v ps p s k b some = refl
old_walk_lem (suc n) v ps p s k b some =
    by_test (scan (suc n) v (in_use (page ps p)) s).is_covered refl
    (λ o.
    let t = scan (suc n) v (in_use (page ps p)) s in
    let i = choose t.box (in_use (page ps p)) in
    let c = (get_or (in_use (page ps p)) i zero_entry).child in
    let x = strike_page n t.box v ps c in
    let d = step_down n v ps p s k b (some (omega arith)) o in
    some_left (in_use (page x.pages c)) (old_walk n v) p i c x.pages t (k + x.records) d.some
    ∙ ap (old_back p i) (old_walk_lem n v x.pages c t (k + x.records) d.begun (λ l. d.some)))
  where
    by_test : (o : Bool) → (scan (suc n) v (in_use (page ps p)) s).is_covered ≡ o
        → ((scan (suc n) v (in_use (page ps p)) s).is_covered ≡ false → old_down n v (old_walk n v) ps p (scan (suc n) v (in_use (page ps p)) s) k ≡ done (go_down n v (walk_down n v) ps p (scan (suc n) v (in_use (page ps p)) s) k))
        → old_unless_covered o (old_down n v (old_walk n v)) ps p (scan (suc n) v (in_use (page ps p)) s) k ≡ done (unless_covered o (go_down n v (walk_down n v)) ps p (scan (suc n) v (in_use (page ps p)) s) k)
    by_test true o f = refl
    by_test false o f = f o

old_from_root_lem : (fuel n v : ℕ) (ps : List Page) (r : ℕ) (s : Sought) → 1 ≤ fuel → Before n v ps r s → old_from_root fuel n v r ps s 0 ≡ from_root n v ps r s
unfolding old_from_root from_root
old_from_root_lem zero n v ps r s l h = absurd (omega arith)
old_from_root_lem (suc fuel) n v ps r s l h =
    let x = strike_page n s.box v ps r in
    let z : 0 + x.records ≡ x.records = omega arith in
    ap (λ (m : ℕ). start_again (old_leaf_if_empty (in_use (page x.pages r)) n v x.pages r s m) (old_from_root fuel n v r)) z
    ∙ ap (λ (y : OldWalked). start_again y (old_from_root fuel n v r)) (by_left (in_use (page x.pages r)) refl)
  where
    by_left : (es : List Entry) → in_use (page (strike_page n s.box v ps r).pages r) ≡ es
        → old_leaf_if_empty es n v (strike_page n s.box v ps r).pages r s (strike_page n s.box v ps r).records ≡ done (leaf_if_empty es n v (strike_page n s.box v ps r).pages r s (strike_page n s.box v ps r).records)
    by_left [] e = refl
    by_left (y ∷ es) e = old_walk_lem n v (strike_page n s.box v ps r).pages r s (strike_page n s.box v ps r).records (strike_begun n v ps r s h) (λ l. let k = ap length e in omega arith)

-- Every page, the small record and the answer stay equal, for every well-formed book and every legal record.
pub same_without : (t : List ℕ) (s : Small) (b : Box) (v : ℕ) → Accepted t s b v → old_recorded (pages_of t) s b v ≡ recorded (pages_of t) s b v
unfolding old_recorded recorded
same_without t s b v a =
    let ps = pages_of t in
    let k = book ps s (conditions_of t s a.sound) in
    let e : s.height - 1 ≡ k.levels = let h = k.height in omega arith in
    ap (put_right s)
    (subst (λ (n : ℕ). old_from_root (length ps) n v s.root ps (handed_in b) 0 ≡ from_root n v ps s.root (handed_in b)) (sym e)
    (old_from_root_lem (length ps) k.levels v ps s.root (handed_in b) (let i = k.tree.inside in omega arith) (before ps s k b v a.lawful a.passes a.unspent a.room)))
