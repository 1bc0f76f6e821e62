-- No page below the root is left with no entry: what would strike all entries of a page strikes its exact entry above (`struck_above`), and the box that strikes below is the one that passed above, or a part of it.
use Rattle.std.specs.Prelude.{Bool, true, false, cond, List, [], ◌∷◌, ◌≡◌, refl, ℕ, zero, suc, ◌-◌, ◌≤◌, length}
use Rattle.std.proofs.Common.{sym, ap, subst, arith}
use Rattle.ground.specs.declared.boxes.Box.{Box}
use Rattle.pages.specs.Layout.{pages_of}
use Rattle.pages.specs.Summary.{in_use}
use Rattle.pages.specs.declared.Entry.{Entry}
use Rattle.pages.specs.declared.Page.{Page}
use Rattle.pages.specs.declared.Small.{Small}
use Rattle.wellformed.specs.WellFormed.{page}
use Rattle.rules.proofs.Book.{before}
use Rattle.rules.specs.CameLaws.{Before, Begun, strike_begun}
use Rattle.rules.specs.FromWellFormed.{book}
use Rattle.rules.specs.IndexLaws.{chosen}
use Rattle.rules.specs.RecordLaws.{Accepted, conditions_of}
use Rattle.rules.specs.Scan.{Sought, handed_in, scan}
use Rattle.rules.specs.Strike.{strike_page}
use Rattle.rules.proofs.WalkLaws.{step_down}
use Rattle.rules.specs.NeverEmpty.{left_below, NoneEmpty, below_root, left_below_root}

-- None of them is left with no entry.
pub none_empty : (n v : ℕ) (ps : List Page) (p : ℕ) (s : Sought) → Begun n v ps p s → (1 ≤ n → 1 ≤ length (in_use (page ps p))) → NoneEmpty (left_below n v ps p s)
unfolding left_below
none_empty zero v ps p s b some = tt
none_empty (suc n) v ps p s b some =
    let t = scan (suc n) v (in_use (page ps p)) s in
    let c = chosen ps p t in
    let qs = (strike_page n t.box v ps c).pages in
    by_test t.is_covered refl (in_use (page qs c) ∷ left_below n v qs c t)
    (λ o. let d = step_down n v ps p s 0 b (some (omega arith)) o in (d.some, none_empty n v qs c t d.begun (λ l. d.some)))
  where
    by_test : (o : Bool) → (scan (suc n) v (in_use (page ps p)) s).is_covered ≡ o → (ess : List (List Entry)) → ((scan (suc n) v (in_use (page ps p)) s).is_covered ≡ false → NoneEmpty ess) → NoneEmpty (cond o [] ess)
    by_test true o ess f = tt
    by_test false o ess f = f o

none_empty_root : (n v : ℕ) (ps : List Page) (r : ℕ) (s : Sought) → Before n v ps r s → NoneEmpty (left_below_root n v ps r s)
unfolding left_below_root
none_empty_root n v ps r s h = by_left (in_use (page (strike_page n s.box v ps r).pages r)) refl
  where
    by_left : (es : List Entry) → in_use (page (strike_page n s.box v ps r).pages r) ≡ es → NoneEmpty (below_root es (left_below n v (strike_page n s.box v ps r).pages r s))
    by_left [] e = tt
    by_left (x ∷ es) e = none_empty n v (strike_page n s.box v ps r).pages r s (strike_begun n v ps r s h) (λ l. let k = ap length e in omega arith)

-- For every well-formed book and every legal record.
pub never_left_empty : (t : List ℕ) (s : Small) (b : Box) (v : ℕ) → Accepted t s b v → NoneEmpty (left_below_root (s.height - 1) v (pages_of t) s.root (handed_in b))
never_left_empty t s b v a =
    let ps = pages_of t in
    let k = book ps s (conditions_of t s a.sound) in
    let e : s.height - 1 ≡ k.levels = let h = k.height in omega arith in
    subst (λ (n : ℕ). NoneEmpty (left_below_root n v ps s.root (handed_in b))) (sym e)
    (none_empty_root k.levels v ps s.root (handed_in b) (before ps s k b v a.lawful a.passes a.unspent a.room))
