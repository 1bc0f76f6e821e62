-- The verdict of the flat pass is the definition's.
use Rattle.std.specs.Prelude.{Some, None, Option, Ok, Err, Result, ok_or, ℕ, zero, suc, ◌+◌, ◌<◌, Bool, ◌&&◌, not, List, leb, ltb, eqb, slice_get}
use Rattle.std.specs.Bool.{then_some}
use Rattle.std.proofs.Math.Bool.{true, false, cond, true≢false}
use Rattle.std.proofs.Math.Path.{◌≡◌, refl, sym, ap}
use Rattle.std.proofs.Common.{ap₂, ◌∙◌, add-one, arith, ltb-true, leb-true, eqb-true, eq-eqb, ne_eqb}
use Rattle.std.proofs.lemmas.Bool.{not-true}
use Rattle.std.proofs.Math.ListN.{length}
use Rattle.ground.specs.Sums.{total}
use Rattle.ground.specs.Tests.{both, three, joint, joint_three, fails}
use Rattle.pages.specs.Layout.{pages_in, table_fits, pages_of, page_at}
use Rattle.pages.specs.LayoutLaws.{pages_length, pages_at}
use Rattle.pages.specs.Summary.{in_use}
use Rattle.pages.specs.declared.Page.{Page}
use Rattle.pages.specs.declared.Small.{Small}
use Rattle.wellformed.specs.Flat.{graded, named_once, flat_decides, held_flat}
use Rattle.wellformed.specs.Parts.{Parts, parts, whole}
use Rattle.wellformed.specs.PassLaws.{past_end, before_end, page_there, page_passes}
use Rattle.wellformed.specs.WellFormed.{every_below, page, leaf_entries, held_records, root_stands, children_lower, reached_once, page_stands, counts_stand, well_formed, checked}
use Rattle.ground.specs.declared.refusals.Refusal.{Refusal}
use Rattle.ground.specs.declared.refusals.Refusal.TheVariants as no

-- how many records the first n pages hold
unfoldable pub held_in : List ℕ → ℕ → ℕ
held_in t n = total (λ q. length (leaf_entries (page (pages_of t) q))) n

-- what the pass finds: the records of all leaves, if every page passes
abbrev pub found : List ℕ → Small → Option ℕ
found t s = then_some (every_below (page_passes (pages_of t) s) (pages_in t)) (held_in t (pages_in t))

-- one turn of the pass, and its end
pub held_none : (t : List ℕ) → 0 ≡ held_in t 0
unfolding held_in total
held_none t = refl

pub held_more : (t : List ℕ) (p n m : ℕ) → p < pages_in t → n ≡ held_in t p → m ≡ length (leaf_entries (page_at t p)) → n + m ≡ held_in t (p + 1)
unfolding held_in total
held_more t p n m inside e d = rw (add-one, pages_at t p inside) (ap₂ (λ a b. a + b) e d)

pub held_leaf : (x : Page) (l n : ℕ) → l ≡ x.level → l ≡ 1 → n ≡ length (in_use x) → n ≡ length (leaf_entries x)
unfolding leaf_entries
held_leaf x l n e d h = rw (eq-eqb x.level 1 (omega arith)) h

pub held_no_leaf : (x : Page) (l : ℕ) → l ≡ x.level → (l ≡ 1 → ⊥) → 0 ≡ length (leaf_entries x)
unfolding leaf_entries
held_no_leaf x l e d = rw (ne_eqb x.level 1 (λ w. d (omega arith)))

-- the root, tested where it lies
pub root_outside : (ps : List Page) (s : Small) → slice_get ps s.root ≡ None → false ≡ root_stands ps s
unfolding root_stands
root_outside ps s h = rw (past_end ps s.root h)

pub root_inside : (ps : List Page) (s : Small) (x : Page) (l : ℕ) → slice_get ps s.root ≡ Some x → l ≡ x.level → (eqb l s.height && leb 1 s.height) ≡ root_stands ps s
unfolding root_stands
root_inside ps s x l h e = rw (before_end ps s.root x h, page_there ps s.root x h, e)

-- a page passes if its children are lower and it stands: for all pages at once
all_both : (ps : List Page) (s : Small) (n : ℕ) → every_below (page_passes ps s) n ≡ (every_below (children_lower ps) n && every_below (λ p. page_stands ps s p (page ps p)) n)
unfolding every_below
all_both ps s zero = refl
all_both ps s (suc n) = crossed (every_below (children_lower ps) n) (every_below (λ p. page_stands ps s p (page ps p)) n) (children_lower ps n) (page_stands ps s n (page ps n)) (all_both ps s n)
  where
    crossed : (a b c d : Bool) {w : Bool} → w ≡ (a && b) → (w && (c && d)) ≡ (a && c && (b && d))
    crossed true true c d h = ap (λ x. x && (c && d)) h
    crossed true false true d h = ap (λ x. x && (true && d)) h
    crossed true false false d h = ap (λ x. x && (false && d)) h
    crossed false b c d h = ap (λ x. x && (c && d)) h

-- the records that the book holds, if it is well-formed
abbrev pub held_if_well_formed : List ℕ → Small → Option ℕ
held_if_well_formed t s = then_some (well_formed t s) (length (held_records (pages_of t) s))

-- the refusal where there is no such number
pub checked_so : (t : List ℕ) (s : Small) → ok_or (held_if_well_formed t s) no.Damaged ≡ checked t s
unfolding checked
checked_so t s = by_test (well_formed t s)
  where
    by_test : (b : Bool) → ok_or (then_some b (length (held_records (pages_of t) s))) no.Damaged ≡ cond b (Ok (length (held_records (pages_of t) s))) (Err no.Damaged)
    by_test true = refl
    by_test false = refl

-- the definition, given that the table fits and the root stands
module _ (t : List ℕ) (s : Small) (fits : table_fits t ≡ true) (root : root_stands (pages_of t) s ≡ true) where
  passes_all : every_below (page_passes (pages_of t) s) (pages_in t) ≡ (every_below (children_lower (pages_of t)) (length (pages_of t)) && every_below (λ p. page_stands (pages_of t) s p (page (pages_of t) p)) (length (pages_of t)))
  passes_all = ap (every_below (page_passes (pages_of t) s)) (sym (pages_length t)) ∙ all_both (pages_of t) s (length (pages_of t))

  reached_is_named : every_below (children_lower (pages_of t)) (length (pages_of t)) ≡ true → every_below (reached_once (pages_of t) s) (length (pages_of t)) ≡ every_below (named_once (pages_of t) s) (pages_in t)
  unfolding root_stands
  reached_is_named e =
      let r = three (ltb s.root (length (pages_of t))) (eqb (page (pages_of t) s.root).level s.height) (leb 1 s.height) root in
      flat_decides (pages_of t) s (graded (pages_of t) e) (ltb-true s.root (length (pages_of t)) r.0) (eqb-true (page (pages_of t) s.root).level s.height r.1) (leb-true 1 s.height r.2)
      ∙ ap (every_below (named_once (pages_of t) s)) (pages_length t)

  held_is : every_below (children_lower (pages_of t)) (length (pages_of t)) ≡ true → every_below (reached_once (pages_of t) s) (length (pages_of t)) ≡ true → length (held_records (pages_of t) s) ≡ held_in t (pages_in t)
  unfolding root_stands held_in
  held_is e f =
      let r = three (ltb s.root (length (pages_of t))) (eqb (page (pages_of t) s.root).level s.height) (leb 1 s.height) root in
      held_flat (pages_of t) s (graded (pages_of t) e) (ltb-true s.root (length (pages_of t)) r.0) (eqb-true (page (pages_of t) s.root).level s.height r.1) (leb-true 1 s.height r.2) f
      ∙ ap (total (λ q. length (leaf_entries (page (pages_of t) q)))) (pages_length t)

  decided : (b : Bool) → every_below (page_passes (pages_of t) s) (pages_in t) && every_below (named_once (pages_of t) s) (pages_in t) && counts_stand s (held_in t (pages_in t)) ≡ b → then_some b (held_in t (pages_in t)) ≡ held_if_well_formed t s
  decided true e =
      let k = three (every_below (page_passes (pages_of t) s) (pages_in t)) (every_below (named_once (pages_of t) s) (pages_in t)) (counts_stand s (held_in t (pages_in t))) e in
      let c = both (every_below (children_lower (pages_of t)) (length (pages_of t))) (every_below (λ p. page_stands (pages_of t) s p (page (pages_of t) p)) (length (pages_of t))) (sym passes_all ∙ k.0) in
      let r = reached_is_named c.0 ∙ k.1 in
      let n = held_is c.0 r in
      rw (whole t s (record { fits = fits; root = root; lower = c.0; reached = r; stand = c.1; counts = ap (counts_stand s) n ∙ k.2 })) (ap Some (sym n))
  decided false e = rw (fails (well_formed t s) (λ w. true≢false (sym (all_true (parts t s w)) ∙ e)))
    where
      all_true : Parts t s → every_below (page_passes (pages_of t) s) (pages_in t) && every_below (named_once (pages_of t) s) (pages_in t) && counts_stand s (held_in t (pages_in t)) ≡ true
      all_true k =
          joint_three (every_below (page_passes (pages_of t) s) (pages_in t)) (every_below (named_once (pages_of t) s) (pages_in t)) (counts_stand s (held_in t (pages_in t)))
          (passes_all ∙ joint (every_below (children_lower (pages_of t)) (length (pages_of t))) (every_below (λ p. page_stands (pages_of t) s p (page (pages_of t) p)) (length (pages_of t))) k.lower k.stand)
          (sym (reached_is_named k.lower) ∙ k.reached)
          (ap (counts_stand s) (sym (held_is k.lower k.reached)) ∙ k.counts)

  -- a page that does not pass is damage enough; if all pass, the marks and the counts decide
  pub found_damaged : None ≡ found t s → None ≡ held_if_well_formed t s
  found_damaged e = by_test (every_below (page_passes (pages_of t) s) (pages_in t)) _ _ _ e (decided (every_below (page_passes (pages_of t) s) (pages_in t) && every_below (named_once (pages_of t) s) (pages_in t) && counts_stand s (held_in t (pages_in t))) refl)
    where
      by_test : (b n c : Bool) (m : ℕ) {r : Option ℕ} → None ≡ then_some b m → then_some (b && n && c) m ≡ r → None ≡ r
      by_test true n c m e h = cc
      by_test false n c m e h = h

  pub found_held : (n : ℕ) (named counts : Bool) → Some n ≡ found t s → named ≡ every_below (named_once (pages_of t) s) (pages_in t) → counts ≡ counts_stand s n → then_some (named && counts) n ≡ held_if_well_formed t s
  found_held n w k e p q = by_test (every_below (page_passes (pages_of t) s) (pages_in t)) w k _ _ e p q (decided (every_below (page_passes (pages_of t) s) (pages_in t) && every_below (named_once (pages_of t) s) (pages_in t) && counts_stand s (held_in t (pages_in t))) refl)
    where
      by_test : (b x y z : Bool) (m : ℕ) {r : Option ℕ} → Some n ≡ then_some b m → x ≡ z → y ≡ counts_stand s n → then_some (b && z && counts_stand s m) m ≡ r → then_some (x && y) n ≡ r
      by_test true x y z m e p q h = let d : n ≡ m = cc in rw (p, q, d) h
      by_test false x y z m e p q h = cc

  -- what the check answers, by what the pass finds and what the marks and the counts say
  module _ (stands named counts : Bool) (held : ℕ) (hs : stands ≡ every_below (page_passes (pages_of t) s) (pages_in t)) (hh : held ≡ held_in t (pages_in t))
      (hn : named ≡ every_below (named_once (pages_of t) s) (pages_in t)) (hc : counts ≡ counts_stand s held) where
    verdict_so : (b : Bool) → stands && named && counts ≡ b → ok_or (then_some b held) no.Damaged ≡ checked t s
    verdict_so b e = ap (λ r. ok_or r no.Damaged) (rw hh (decided b (rw (sym hs, sym hn, sym hh) (rw hc at e)))) ∙ checked_so t s

    pub verdict_held : stands && named && counts ≡ true → Ok held ≡ checked t s
    verdict_held e = verdict_so true e

    pub verdict_damaged : stands && named && counts ≡ false → Err no.Damaged ≡ checked t s
    verdict_damaged e = verdict_so false e

-- a table that does not fit, or a root that does not stand, is damage enough
pub no_table : (t : List ℕ) (s : Small) → table_fits t ≡ false → None ≡ held_if_well_formed t s
unfolding well_formed
no_table t s e = rw e

pub no_root : (t : List ℕ) (s : Small) → root_stands (pages_of t) s ≡ false → None ≡ held_if_well_formed t s
no_root t s e = rw (fails (well_formed t s) (λ w. true≢false (sym (parts t s w).root ∙ e)))

pub damaged_table : (t : List ℕ) (s : Small) → not (table_fits t) ≡ true → Err no.Damaged ≡ checked t s
damaged_table t s e = ap (λ r. ok_or r no.Damaged) (no_table t s (not-true (table_fits t) e)) ∙ checked_so t s

pub damaged_root : (t : List ℕ) (s : Small) → not (root_stands (pages_of t) s) ≡ true → Err no.Damaged ≡ checked t s
damaged_root t s e = ap (λ r. ok_or r no.Damaged) (no_root t s (not-true (root_stands (pages_of t) s) e)) ∙ checked_so t s

-- what a verdict tells of the book
module _ (t : List ℕ) (s : Small) (k : Result ℕ Refusal) (e : k ≡ checked t s) where
  pub well_held : (n : ℕ) → k ≡ Ok n → true ≡ well_formed t s
  unfolding checked
  well_held n d = by_test (well_formed t s) (sym e ∙ d)
    where
      by_test : (b : Bool) → cond b (Ok (length (held_records (pages_of t) s))) (Err no.Damaged) ≡ Ok n → true ≡ b
      by_test true h = refl
      by_test false h = let z : ◌≡◌ {A = ℕ} 0 1 = cc in absurd (omega arith)

  pub well_damaged : k ≡ (Err no.Damaged) → false ≡ well_formed t s
  unfolding checked
  well_damaged d = by_test (well_formed t s) (sym e ∙ d)
    where
      by_test : (b : Bool) → cond b (Ok (length (held_records (pages_of t) s))) (Err no.Damaged) ≡ (Err no.Damaged) → false ≡ b
      by_test true h = let z : ◌≡◌ {A = ℕ} 0 1 = cc in absurd (omega arith)
      by_test false h = refl

  pub well_count : (n : ℕ) → k ≡ Ok n → n ≡ length (held_records (pages_of t) s)
  unfolding checked
  well_count n d =
      let w : well_formed t s ≡ true = sym (well_held n d) in
      let c : Ok n ≡ cond (well_formed t s) (Ok (length (held_records (pages_of t) s))) (Err no.Damaged) = sym d ∙ e in
      let h : Ok n ≡ Ok (length (held_records (pages_of t) s)) = rw w at c in
      cc
