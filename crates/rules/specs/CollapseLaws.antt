-- The collapse of the root: the tree shows the same records, and an index root has at least two entries at the end.
use Rattle.std.specs.Prelude.{Bool, ◌&&◌, ◌≡◌, set, replicate}
use Rattle.std.proofs.Math.Bool.{true, false}
use Rattle.std.proofs.lemmas.Bool.{false≢true}
use mathlib.Core.List.{List, [], ◌∷◌, flat_map}
use Rattle.std.proofs.Math.Path.{refl, ap, subst}
use Rattle.std.proofs.Common.{sym, ◌∙◌}
use Prim.Native.Nat.{ℕ, zero, suc, ◌+◌, ◌-◌, ◌≤◌, ◌<◌}
use native.Mathlib.Omega.{arith}
use Rattle.std.proofs.Math.Logic.{⊎_elim}
use borrow.Author.Tests.{eqb-true, le-leb, eq-eqb}
use Rattle.std.proofs.Math.Dec.{leb, eqb}
use Rattle.std.proofs.Math.ListN.{length, get_or, get_or-append}
use Rattle.ground.specs.Tests.{both, joint, below_or_not}
use Rattle.ground.specs.declared.boxes.Box.{Box}
use Rattle.pages.specs.Layout.{free_page, zero_entry, page_entries}
use Rattle.pages.specs.Summary.{in_use}
use Rattle.pages.specs.declared.Entry.{Entry}
use Rattle.pages.specs.declared.Page.{Page}
use Rattle.split.specs.Split.{page_from}
use Rattle.split.specs.SplitLaws.{weigh, Each, weigh_append}
use Rattle.wellformed.specs.WellFormed.{page}
use Rattle.rules.specs.CameLaws.{all_records, weaken, best_perm}
use Rattle.rules.specs.Frame.{loads, root_load, root_records, Unchanged, frame}
use Rattle.rules.specs.Moves.{only, Pages, Apart, Moved, moved_apart, beside, again, then, release}
use Rattle.rules.specs.Recording.{Rooted, one_entry, collapse_by, collapse}
use Rattle.rules.specs.RootLaws.{Grown}
use Rattle.rules.specs.Scan.{Sought}
use Rattle.rules.specs.StrikeLaws.{nothing, standing}
use Rattle.rules.specs.Tree.{load, records, hit, Stands, Sound, level_of}

alone : (es : List Entry) → length es ≡ 1 → es ≡ get_or es 0 zero_entry ∷ []
alone [] e = absurd (omega arith)
alone (x ∷ []) e = refl
alone (x ∷ y ∷ es) e = absurd (omega arith)

-- a standing page's count and first entry
module _ (qs : List Page) (m r : ℕ) (S : Entry → Type 0) (h : Stands qs m r S) where
  pub count_is : (page qs r).count ≡ length (in_use (page qs r))
  unfolding page_from
  count_is = ap (λ (x : Page). x.count) h.form

  pub first_is : 1 ≤ length (in_use (page qs r)) → get_or (page qs r).entries 0 zero_entry ≡ get_or (in_use (page qs r)) 0 zero_entry
  unfolding page_from
  first_is k = ap (λ (x : Page). get_or x.entries 0 zero_entry) h.form ∙ get_or-append (in_use (page qs r)) (replicate (page_entries - length (in_use (page qs r))) zero_entry) zero_entry 0 k

module _ (n v : ℕ) (ps : List Page) (r : ℕ) (b : Box) (struck : ℕ) (s : Sought) (apart : Apart ps (root_load ps n r)) where
  -- one step
  module _ (qs : List Page) (t m : ℕ) (g : Grown n v ps r b struck s qs t (suc m)) (one : length (in_use (page qs t)) ≡ 1) where
    es : List Entry
    es = in_use (page qs t)

    e : Entry
    e = get_or es 0 zero_entry

    es_is : es ≡ e ∷ []
    unfolding es e
    es_is = alone (in_use (page qs t)) one

    rs : List Page
    rs = set qs t free_page

    own : Pages
    own h = h t

    released : Moved qs rs own nothing 0
    unfolding rs own
    released = release qs t g.tree.inside (standing qs (suc m) t (Sound qs (suc m)) g.tree)

    sound_es : Each (Sound qs (suc m)) (e ∷ [])
    unfolding es
    sound_es = subst (Each (Sound qs (suc m))) es_is g.tree.each

    e_apart : Apart qs (λ h. own h + loads qs (suc m) (e ∷ []) h)
    unfolding own es
    e_apart q =
        let a = moved_apart ps qs (root_load ps n r) (root_load qs (suc m) t) (suc (suc n)) g.moved apart q in
        let c = ap (λ (l : List Entry). loads qs (suc m) l (only q)) es_is in
        omega arith

    e_unchanged : Unchanged qs rs (suc m) e
    e_unchanged = (frame qs rs own nothing 0 released (loads qs (suc m) (e ∷ [])) e_apart (suc m) (e ∷ []) sound_es (λ q. omega arith)).0

    step_moved : Moved qs rs (root_load qs (suc m) t) (root_load rs m e.child) 0
    unfolding own es weigh load
    step_moved =
        again qs rs (λ h. own h + loads qs (suc m) (e ∷ []) h) (λ h. nothing h + loads qs (suc m) (e ∷ []) h) 0 (beside qs rs own nothing 0 released (loads qs (suc m) (e ∷ [])))
        (root_load qs (suc m) t) (root_load rs m e.child)
        (λ h. ap (λ (l : List Entry). h t + loads qs (suc m) l h) es_is)
        (λ h. let a = e_unchanged.same_load h in omega arith)

    step_records : (f : Entry → ℕ) → weigh f (root_records rs m e.child) ≡ weigh f (root_records qs (suc m) t)
    unfolding es weigh flat_map records
    step_records f =
        let a = ap (weigh f) e_unchanged.same_records in
        let c = ap (λ (l : List Entry). weigh f (all_records qs (suc m) l)) es_is in
        omega (arith, weigh_append f (records qs (suc m) e) [])

    step_grown : Grown n v ps r b struck s rs e.child m
    step_grown =
        record {
          tree = e_unchanged.sound.stands;
          some = e_unchanged.sound.some;
          moved =
              weaken ps rs (root_load ps n r) (root_load rs m e.child) (suc (suc n) + 0) (suc (suc n)) (omega arith)
              (then ps qs (root_load ps n r) (root_load qs (suc m) t) (suc (suc n)) g.moved rs (root_load rs m e.child) 0 step_moved);
          gone = g.gone;
          counted = g.counted;
          inside = g.inside;
          same = λ f. let a = g.same f in let c = step_records f in omega arith;
          answers = λ q l. best_perm (hit q) (root_records rs m e.child) (root_records qs (suc m) t) step_records ∙ g.answers q l;
        }

    pub step : Grown n v ps r b struck s (set qs t free_page) (get_or (page qs t).entries 0 zero_entry).child m
    unfolding rs e es
    step =
        subst (λ (x : Entry). Grown n v ps r b struck s (set qs t free_page) x.child m)
        (sym (first_is qs (suc m) t (Sound qs (suc m)) g.tree g.some)) step_grown

  -- the end of it
  pub record Collapsed (t : Rooted) : Type 0 where
    pub levels : ℕ
    pub grown : Grown n v ps r b struck s t.pages t.root levels
    pub wide : 1 ≤ levels → 2 ≤ length (in_use (page t.pages t.root))

  pub collapse_law : (k m : ℕ) (qs : List Page) (t : ℕ) → m ≤ k → Grown n v ps r b struck s qs t m → Collapsed (collapse k qs t)
  unfolding collapse
  collapse_law zero m qs t h g = record { levels = m; grown = g; wide = λ l. absurd (omega arith) }
  collapse_law (suc k) m qs t h g = by_level m h g (collapse_law k)
    where
      by_level : (m : ℕ) → m ≤ suc k → Grown n v ps r b struck s qs t m
          → ((m : ℕ) (qs : List Page) (t : ℕ) → m ≤ k → Grown n v ps r b struck s qs t m → Collapsed (collapse k qs t))
          → Collapsed (collapse_by (one_entry (page qs t)) (collapse k) qs t)
      by_level zero h g f =
          let l = level_of qs zero t (Sound qs zero) g.tree in
          let e : leb 2 (page qs t).level ≡ false = ap (leb 2) l in
          subst (λ (x : Bool). Collapsed (collapse_by (x && eqb (page qs t).count 1) (collapse k) qs t)) (sym e)
          (record { levels = zero; grown = g; wide = λ l. absurd (omega arith) })
      by_level (suc m) h g f = by_test (one_entry (page qs t)) refl
        where
          by_test : (o : Bool) → one_entry (page qs t) ≡ o → Collapsed (collapse_by o (collapse k) qs t)
          by_test true e =
              let c = eqb-true (page qs t).count 1 (both (leb 2 (page qs t).level) (eqb (page qs t).count 1) e).1 in
              f m (set qs t free_page) (get_or (page qs t).entries 0 zero_entry).child (omega arith) (step qs t m g (sym (count_is qs (suc m) t (Sound qs (suc m)) g.tree) ∙ c))
          by_test false e =
              record {
                levels = suc m;
                grown = g;
                wide = λ l. ⊎_elim
                    (λ (x : length (in_use (page qs t)) < 2).
                    let i = g.some in
                    let c = count_is qs (suc m) t (Sound qs (suc m)) g.tree in
                    let d : (page qs t).count ≡ 1 = omega arith in
                    let y = level_of qs (suc m) t (Sound qs (suc m)) g.tree in
                    absurd (false≢true (sym e ∙ joint (leb 2 (page qs t).level) (eqb (page qs t).count 1) (le-leb 2 (page qs t).level (omega arith)) (eq-eqb (page qs t).count 1 d))))
                    (λ (x : 2 ≤ length (in_use (page qs t))). x)
                    (below_or_not (length (in_use (page qs t))) 2);
              }
