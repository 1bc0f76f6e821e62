-- The rules on one page's entries: what is struck never exceeds the new record, a candidate never exceeds what stays, and a page below the root is never left empty.
use Rattle.std.proofs.lemmas.Bool.{not-true, false≢true}
use Rattle.std.specs.Prelude.{Bool, true, false, not, List, [], ◌∷◌, ◌≡◌, refl, ℕ, zero, suc, max, ◌≤◌, ◌<◌, leb, length, get_or}
use Rattle.std.proofs.Common.{sym, ◌∙◌, subst, le_trans, arith}
use Rattle.ground.specs.Boxes.{covers}
use Rattle.ground.specs.Tests.{both, joint}
use Rattle.ground.specs.declared.boxes.Box.{Box}
use Rattle.pages.specs.Layout.{zero_entry}
use Rattle.pages.specs.Summary.{in_use, gust_of, covering, first_greatest, summary}
use Rattle.pages.specs.SummaryLaws.{covering_smallest, first_greatest_lem}
use Rattle.pages.specs.declared.Entry.{Entry}
use Rattle.pages.specs.declared.Page.{Page}
use Rattle.split.specs.SplitLaws.{Each, each_at, each_of}
use Rattle.wellformed.specs.WellFormed.{page}
use Rattle.rules.specs.Lists.{best_of, best_at, best_most, best_parts, each_imp, select_weigh, select_each}
use Rattle.rules.specs.Scan.{Sought, scan}
use Rattle.rules.specs.Score.{score, score_gust, struck_less, struck_wider, Candidates, Scanned, scan_law}
use Rattle.rules.specs.Strike.{is_struck, cons_if, select, struck_of, rest}
use Rattle.rules.specs.Tree.{best, Sound, Bounds, bounds, exact_entries}

-- the best of what stands under a page's entries
abbrev pub bests : List Page → Box → ℕ → List Entry → ℕ
bests ps q n es = best_of (best ps q n) es

module _ (ps : List Page) (n v : ℕ) where
  -- a candidate never exceeds what stays
  candidates_of : (e : Entry) (B : Box → ℕ) → ((q : Box) → best ps q n e ≤ B q) → Sound ps n e → Candidates n v B e
  candidates_of e B below h = by_level n e below (λ q. bounds ps q n e h)
    where
      by_level : (n : ℕ) (e : Entry) → ((q : Box) → best ps q n e ≤ B q) → ((q : Box) → Bounds ps q n e) → Candidates n v B e
      by_level zero e below b =
          record {
            leaf = λ z g q l. le_trans (score_gust q e.place v e.gust g) (le_trans (b q).strong (below q));
            strongest = λ z g q l. absurd (omega arith);
            union = λ z g q l. absurd (omega arith);
          }
      by_level (suc m) e below b =
          record {
            leaf = λ z g q l. absurd (omega arith);
            strongest = λ z g q l. le_trans (score_gust q e.strongest v e.gust g) (le_trans (b q).strong (below q));
            union = λ z g q l. le_trans (score_gust q e.union v e.weakest g) (le_trans (b q).wide (below q));
          }

  candidates_all : (es : List Entry) → Each (Sound ps n) es → Each (Candidates n v (λ q. bests ps q n es)) es
  candidates_all es h =
      each_of (Candidates n v (λ q. bests ps q n es)) es zero_entry
      (λ i l. candidates_of (get_or es i zero_entry) (λ q. bests ps q n es) (λ q. best_at (best ps q n) es i l) (each_at (Sound ps n) es zero_entry i l h))

  pub scan_keeps : (es : List Entry) (s : Sought) → Each (Sound ps n) es → s.is_covered ≡ false → Scanned v (λ q. bests ps q n es) s (scan n v es s)
  scan_keeps es s h f = scan_law v (λ q. bests ps q n es) n es s (candidates_all es h) (λ t. absurd (false≢true (sym f ∙ t)))

  -- what is struck never exceeds the new record
  module _ (b : Box) (es : List Entry) (sound : Each (Sound ps n) es) where
    pub strike_bound : (q : Box) → bests ps q n (struck_of b v es) ≤ score q b v
    strike_bound q =
        best_most (best ps q n) (score q b v) (struck_of b v es)
        (each_imp (λ e. Sound ps n e × (is_struck b v e ≡ true)) (λ e. best ps q n e ≤ score q b v) (struck_of b v es)
        (λ e h. le_trans (bounds ps q n e h.0).upper (struck_less q b v e h.1))
        (select_each (is_struck b v) (Sound ps n) es sound))

    pub strike_keeps : (q : Box) → max (bests ps q n (rest b v es)) (score q b v) ≡ max (bests ps q n es) (score q b v)
    strike_keeps q =
        let a = best_parts (best ps q n) es (struck_of b v es) (rest b v es) (λ h. select_weigh (is_struck b v) h es) in
        let k = strike_bound q in
        omega arith

    pub sound_rest : Each (Sound ps n) (rest b v es)
    sound_rest = each_imp (λ e. Sound ps n e × (not (is_struck b v e) ≡ true)) (Sound ps n) (rest b v es) (λ e h. h.0) (select_each (λ e. not (is_struck b v e)) (Sound ps n) es sound)

    pub sound_struck : Each (Sound ps n) (struck_of b v es)
    sound_struck = each_imp (λ e. Sound ps n e × (is_struck b v e ≡ true)) (Sound ps n) (struck_of b v es) (λ e h. h.0) (select_each (is_struck b v) (Sound ps n) es sound)

-- where nothing is left all were struck
none_left : (t : Entry → Bool) (es : List Entry) → length (select (λ e. not (t e)) es) ≡ 0 → Each (λ e. t e ≡ true) es
unfolding select
none_left t [] p = tt
none_left t (e ∷ es) p = by_test (t e) refl p (none_left t es)
  where
    by_test : (b : Bool) → t e ≡ b → length (cons_if (not b) e (select (λ x. not (t x)) es)) ≡ 0
        → (length (select (λ x. not (t x)) es) ≡ 0 → Each (λ x. t x ≡ true) es) → Each (λ x. t x ≡ true) (e ∷ es)
    by_test true q p f = (q, f p)
    by_test false q p f = absurd (omega arith)

-- an entry all of whose child's entries are struck is struck
all_struck : (b : Box) (v c l : ℕ) (es : List Entry) → 0 < length es → Each (λ e. is_struck b v e ≡ true) es → is_struck b v (summary c l es) ≡ true
unfolding summary
all_struck b v c l es some p =
    let g = first_greatest_lem gust_of es some in
    let at : (i : ℕ) → i < length es → (covers b (get_or es i zero_entry).place ≡ true) × (leb (get_or es i zero_entry).gust v ≡ true) =
    λ i h. both (covers b (get_or es i zero_entry).place) (leb (get_or es i zero_entry).gust v) (each_at (λ e. is_struck b v e ≡ true) es zero_entry i h p) in
    joint (covers b (covering es)) (leb (first_greatest gust_of es).gust v)
    (covering_smallest es b some (λ i h. (at i h).0))
    (subst (λ (m : Entry). leb m.gust v ≡ true) g.there (at g.place g.within).1)

-- An exact entry all of whose child's entries are struck is struck itself.
pub struck_above : (ps : List Page) (n v : ℕ) (b : Box) (e : Entry) → Sound ps (suc n) e → length (rest b v (in_use (page ps e.child))) ≡ 0 → is_struck b v e ≡ true
struck_above ps n v b e h p =
    let x = all_struck b v e.child (suc n) (in_use (page ps e.child)) h.some (none_left (is_struck b v) (in_use (page ps e.child)) p) in
    subst (λ (m : Entry). is_struck b v m ≡ true) (sym (exact_entries ps n (Sound ps n) e h)) x

-- So where a box does not strike the entry, neither it nor a part of it strikes all entries of the child.
pub never_empty : (ps : List Page) (n v : ℕ) (a b : Box) (e : Entry) → Sound ps (suc n) e → is_struck a v e ≡ false → covers a b ≡ true → 1 ≤ length (rest b v (in_use (page ps e.child)))
never_empty ps n v a b e h f c = by_length (length (rest b v (in_use (page ps e.child)))) refl
  where
    by_length : (k : ℕ) → length (rest b v (in_use (page ps e.child))) ≡ k → 1 ≤ k
    by_length (suc k) p = omega arith
    by_length zero p = absurd (false≢true (sym f ∙ struck_wider a b v e c (struck_above ps n v b e h p)))

-- what is left was not struck
pub rest_unstruck : (b : Box) (v : ℕ) (es : List Entry) → Each (λ e. is_struck b v e ≡ false) (rest b v es)
rest_unstruck b v es =
    each_imp (λ e. Unit {0} × (not (is_struck b v e) ≡ true)) (λ e. is_struck b v e ≡ false) (rest b v es)
    (λ e h. not-true (is_struck b v e) h.1)
    (select_each (λ e. not (is_struck b v e)) (λ e. Unit {0}) es (trivial es))
  where
    trivial : (es : List Entry) → Each (λ e. Unit {0}) es
    trivial [] = tt
    trivial (e ∷ es) = (tt, trivial es)
