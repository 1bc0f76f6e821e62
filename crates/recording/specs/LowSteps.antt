-- The second group of a split took the lowest free page. So no page below it is free, and the next search of the same walk may begin there.
use Rattle.std.specs.Prelude.{Some, None, Option, ℕ, zero, suc, ◌≤◌, ◌<◌, Bool, true, false, cond, List, [], ◌∷◌, ◌++◌, ◌≡◌, refl, leb, eqb, length, set, drop}
use Rattle.std.proofs.Common.{ap, ◌∙◌, arith, eqb-true, ne_eqb, length-set, get_or-set_same, get_or-set_other}
use Rattle.std.proofs.lemmas.Bool.{eqb-false}
use Rattle.pages.specs.Free.{is_free, lowest_from, lowest_free}
use Rattle.pages.specs.FreeLaws.{NoneFree, lowest_at, lowest_past}
use Rattle.pages.specs.Layout.{page_entries, free_page, pages_of}
use Rattle.pages.specs.Summary.{in_use, summary_of}
use Rattle.pages.specs.declared.Entry.{Entry}
use Rattle.pages.specs.declared.Page.{Page}
use Rattle.rules.specs.Recording.{Became, Became.stands, Became.split, Walked, Walk, into_page, split_page, settle_by, settle, exact_at, come_back_by, come_back, append, go_down, unless_covered, go_on, walk_down}
use Rattle.rules.specs.Scan.{Sought, scan}
use Rattle.split.specs.Split.{TwoLists, halves, page_from, pages_from}
use Rattle.split.specs.declared.filling.Halves.{Halves}
use Rattle.wellformed.specs.WellFormed.{page}
use Rattle.recording.specs.Views.{Leaves}

-- no page below n is free, but for p
pub record NoneBut (ps : List Page) (p n : ℕ) : Type 0 where
  pub most : n ≤ length ps
  pub others : (k : ℕ) → k < n → (k ≡ p → ⊥) → is_free (page ps k) ≡ false

-- no page below the one that a split took is free
abbrev pub Low : Became → List Page → Type 0
Low o ps = (q : ℕ) → o ≡ split q → NoneFree ps q

none_most : (ps : List Page) (n : ℕ) → NoneFree ps n → n ≤ length ps
none_most ps zero h = omega arith
none_most ps (suc n) h = omega (arith, (h n (omega arith)).0)

pub none_but_none : (ps : List Page) (p : ℕ) → NoneBut ps p 0
none_but_none ps p = record { most = omega arith; others = λ k l d. absurd (omega arith) }

-- the page come back to is written
pub low_but : (ps qs : List Page) (p q : ℕ) (o : Became) (y : Page) → qs ≡ set ps p y → o ≡ split q → Low o ps → NoneBut qs p q
low_but ps qs p q o y e d h =
    let none = h q d in
    record {
      most = omega (arith, none_most ps q none, ap length e, length-set ps p y);
      others = λ k l n. ap (λ xs. is_free (page xs k)) e ∙ ap is_free (get_or-set_other ps p k y free_page n) ∙ (none k l).1;
    }

-- a page that is split is free only if its level is 0: then the search begins at page 0
module _ (ps qs : List Page) (p n level : ℕ) (y : Page) (e : qs ≡ set ps p y) (d : y.level ≡ level) (h : NoneBut ps p n) where
  none_below : (level ≡ 0 → ⊥) → NoneFree qs n
  none_below some k l =
      let inside : k < length ps = omega (arith, h.most) in
      (omega (arith, ap length e, length-set ps p y), ap (λ xs. is_free (page xs k)) e ∙ by_test (eqb k p) refl)
    where
      by_test : (b : Bool) → eqb k p ≡ b → is_free (page (set ps p y) k) ≡ false
      by_test true g =
          let same = eqb-true k p g in
          ap (λ m. is_free (page (set ps p y) m)) same ∙ ap is_free (get_or-set_same ps p y free_page (omega (arith, h.most))) ∙ ap (λ m. eqb m 0) d ∙ ne_eqb level 0 some
      by_test false g = ap is_free (get_or-set_other ps p k y free_page (eqb-false k p g)) ∙ h.others k l (eqb-false k p g)

  pub found_lowest : (start : ℕ) (f : Option ℕ) → start ≡ cond (eqb level 0) 0 n → f ≡ lowest_from start (drop start qs) → f ≡ lowest_free qs
  found_lowest start f s g = g ∙ ap (λ m. lowest_from m (drop m qs)) s ∙ by_test (eqb level 0) refl
    where
      by_test : (b : Bool) → eqb level 0 ≡ b → lowest_from (cond b 0 n) (drop (cond b 0 n) qs) ≡ lowest_free qs
      by_test true k = refl
      by_test false k = lowest_past qs n (none_below (eqb-false level 0 k))

pub first_level : (h : Halves) (level : ℕ) (xs : TwoLists) → h ≡ pages_from level xs → h.first.level ≡ level
unfolding page_from
first_level h level xs e = ap (λ (g : Halves). g.first.level) e

-- the search after the first group is stored
pub lowest_after : (t u : List ℕ) (p from level start : ℕ) (h : Halves) (xs : TwoLists) (f : Option ℕ) → h ≡ pages_from level xs → Leaves t u (set (pages_of t) p h.first) → NoneBut (pages_of t) p from
    → start ≡ cond (eqb level 0) 0 from → f ≡ lowest_from start (drop start (pages_of u)) → f ≡ lowest_free (pages_of u)
lowest_after t u p from level start h xs f e l none s g = found_lowest (pages_of t) (pages_of u) p from level h.first l.pages_are (first_level h level xs e) none start f s g

-- what a walk hands back
not_split : (q : ℕ) → stands ≡ split q → ⊥
not_split q e = let z : ◌≡◌ {A = ℕ} 0 1 = cc in omega arith

same_split : (m q : ℕ) → split m ≡ split q → m ≡ q
same_split m q e = cc

LowWalk : Walked → Type 0
LowWalk w = Low w.became w.pages

settle_low : (ps : List Page) (p level : ℕ) (es : List Entry) (s : Sought) (k : ℕ) → LowWalk (settle ps p level es s k)
unfolding LowWalk settle split_page
settle_low ps p level es s k = by_test (leb (length es) page_entries)
  where
    by_free : (qs : List Page) (xs : List Entry) (f : Option ℕ) → lowest_free qs ≡ f → LowWalk (into_page f qs level xs s k)
    by_free qs xs (Some m) e =
        λ q d i l.
        let low = lowest_at qs m e in
        let same = same_split m q d in (
          omega (arith, low.within, length-set qs m (page_from level xs)),
          ap is_free (get_or-set_other qs m i (page_from level xs) free_page (λ z. omega arith)) ∙ low.earlier i (omega arith),
        )
    by_free qs xs None e = λ q d. absurd (not_split q d)

    by_test : (b : Bool) → LowWalk (settle_by b ps p level es s k)
    by_test true = λ q d. absurd (not_split q d)
    by_test false = let qs = set ps p (page_from level (halves es).first) in by_free qs (halves es).second (lowest_free qs) refl

come_back_low : (p i : ℕ) (w : Walked) → LowWalk (come_back p i w)
unfolding LowWalk come_back
come_back_low p i w = by_case w.became
  where
    by_case : (o : Became) → LowWalk (come_back_by o w.pages p (page w.pages p).level (in_use (page w.pages p)) i w.sought w.struck)
    by_case stands = settle_low w.pages p (page w.pages p).level (exact_at w.pages (in_use (page w.pages p)) i) w.sought w.struck
    by_case (split m) = settle_low w.pages p (page w.pages p).level (exact_at w.pages (in_use (page w.pages p)) i ++ (summary_of m (page w.pages m) ∷ [])) w.sought w.struck

on_low : (n v : ℕ) (next : Walk) → ((ps : List Page) (p : ℕ) (s : Sought) (k : ℕ) → LowWalk (next ps p s k)) → (ps : List Page) (p : ℕ) (s : Sought) (k : ℕ) → LowWalk (go_on n v next ps p s k)
unfolding LowWalk go_on
on_low n v next low ps p s k = by_cover (scan n v (in_use (page ps p)) s).is_covered (scan n v (in_use (page ps p)) s)
  where
    by_cover : (b : Bool) (found : Sought) → LowWalk (unless_covered b next ps p found k)
    by_cover true found = λ q d. absurd (not_split q d)
    by_cover false found = low ps p found k

pub walk_low : (n v : ℕ) (ps : List Page) (p : ℕ) (s : Sought) (k : ℕ) → Low (walk_down n v ps p s k).became (walk_down n v ps p s k).pages
unfolding LowWalk walk_down append go_down
walk_low zero v ps p s k = on_low zero v (append v) (λ qs r u m. settle_low qs r (page qs r).level _ u m) ps p s k
walk_low (suc n) v ps p s k = on_low (suc n) v (go_down n v (walk_down n v)) (λ qs r u m. come_back_low r _ _) ps p s k
