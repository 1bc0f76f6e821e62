-- A small algebra of moves on a store of pages: write a page of your own, take a free one, free one of your own. What a move owns is a sum over pages for every weight.
use Rattle.std.specs.Prelude.{Bool, true, false, cond, List, ◌≡◌, refl, ℕ, zero, suc, ◌+◌, ◌≤◌, ◌<◌, eqb, length, set}
use Rattle.std.proofs.Common.{true≢false, sym, ap, ◌∙◌, subst, ⊎_elim, arith, eqb-true, eq-eqb, length-set, get_or-set_same, get_or-set_other}
use Rattle.std.proofs.lemmas.Bool.{false≢true, eqb-false}
use Rattle.ground.specs.Sums.{total, total_same, total_step, total_zero}
use Rattle.ground.specs.Tests.{below_or_not}
use Rattle.pages.specs.Free.{is_free, free_count, count_free}
use Rattle.pages.specs.FreeLaws.{free_set, count_free_most}
use Rattle.pages.specs.Layout.{free_page}
use Rattle.pages.specs.declared.Page.{Page}
use Rattle.wellformed.specs.WellFormed.{page}

-- The weight that counts page q alone.
abbrev pub only : ℕ → ℕ → ℕ
only q x = cond (eqb q x) 1 0

-- The sum of h over the free pages.
abbrev pub free_at : List Page → (ℕ → ℕ) → ℕ → ℕ
free_at ps h q = cond (is_free (page ps q)) (h q) 0

unfoldable pub free : List Page → (ℕ → ℕ) → ℕ
free ps h = total (free_at ps h) (length ps)

-- one term changed
pub total_change : (f g : ℕ → ℕ) (p n : ℕ) → p < n → ((q : ℕ) → q < n → (q ≡ p → ⊥) → f q ≡ g q) → total f n + g p ≡ total g n + f p
unfolding total
total_change f g p zero h k = absurd (omega arith)
total_change f g p (suc n) h k =
    ⊎_elim
    (λ (l : p < n). let a = total_change f g p n l (λ q m d. k q (omega arith) d) in let b = k n (omega arith) (λ d. omega arith) in omega arith)
    (λ (l : n ≤ p). let e : p ≡ n = omega arith in rw e (let a = total_same f g n (λ q m. k q (omega arith) (λ d. omega arith)) in omega arith))
    (below_or_not p n)

pub free_put : (ps : List Page) (h : ℕ → ℕ) (p : ℕ) (x : Page) → p < length ps → free (set ps p x) h + free_at ps h p ≡ free ps h + cond (is_free x) (h p) 0
unfolding free
free_put ps h p x l =
    let a = total_change (free_at (set ps p x) h) (free_at ps h) p (length ps) l (λ q m d. ap (λ (y : Page). cond (is_free y) (h q) 0) (get_or-set_other ps p q x free_page d)) in
    let b : free_at (set ps p x) h p ≡ cond (is_free x) (h p) 0 = ap (λ (y : Page). cond (is_free y) (h p) 0) (get_or-set_same ps p x free_page l) in
    let c : total (free_at (set ps p x) h) (length (set ps p x)) ≡ total (free_at (set ps p x) h) (length ps) = ap (total (free_at (set ps p x) h)) (length-set ps p x) in
    omega arith

-- a page is counted among the free ones exactly if it is free
pub free_only : (ps : List Page) (q : ℕ) → is_free (page ps q) ≡ false → free ps (only q) ≡ 0
unfolding free
free_only ps q e = total_zero (free_at ps (only q)) (length ps) (λ i l. by_test i (eqb q i) refl)
  where
    by_test : (i : ℕ) (b : Bool) → eqb q i ≡ b → free_at ps (only q) i ≡ 0
    by_test i true p = let d : q ≡ i = eqb-true q i p in subst (λ (j : ℕ). free_at ps (only q) j ≡ 0) d (rw e)
    by_test i false p = rw p (none (is_free (page ps i)))
      where
        none : (b : Bool) → ◌≡◌ {A = ℕ} (cond b 0 0) 0
        none true = refl
        none false = refl

pub only_same : (q : ℕ) → only q q ≡ 1
only_same q = rw (eq-eqb q q refl)

pub free_counted : (ps : List Page) (q : ℕ) → q < length ps → is_free (page ps q) ≡ true → 1 ≤ free ps (only q)
unfolding free
free_counted ps q l e =
    let h = total_step (free_at ps (only q)) q (length ps) l in
    let a : free_at ps (only q) q ≡ 1 = rw e (only_same q) in
    omega arith

-- what is not free is not counted, and the other way round
pub not_free : (ps : List Page) (q : ℕ) → q < length ps → free ps (only q) ≡ 0 → is_free (page ps q) ≡ false
not_free ps q l z = by_test (is_free (page ps q)) refl
  where
    by_test : (b : Bool) → is_free (page ps q) ≡ b → is_free (page ps q) ≡ false
    by_test true e = let k = free_counted ps q l e in absurd (omega arith)
    by_test false e = e

-- Free pages are all 0.
abbrev pub Clean : List Page → Type 0
Clean ps = (q : ℕ) → is_free (page ps q) ≡ true → page ps q ≡ free_page

-- A set of pages, as a sum for every weight.
abbrev pub Pages : Type 0
Pages = (ℕ → ℕ) → ℕ

-- No page is both free and owned, or owned twice.
abbrev pub Apart : List Page → Pages → Type 0
Apart ps own = (q : ℕ) → free ps (only q) + own (only q) ≤ 1

-- From ps to qs: what was neither free nor owned stays; owned and free together stay the same; at most k free pages are used up.
pub record Moved (ps qs : List Page) (own after : Pages) (k : ℕ) : Type 0 where
  pub same_length : length qs ≡ length ps
  pub kept : (q : ℕ) → is_free (page ps q) ≡ false → own (only q) ≡ 0 → page qs q ≡ page ps q
  pub sums : (h : ℕ → ℕ) → free qs h + after h ≡ free ps h + own h
  pub clean : Clean ps → Clean qs
  pub spent : free_count ps ≤ free_count qs + k

pub still : (ps : List Page) (own : Pages) → Moved ps ps own own 0
still ps own = record { same_length = refl; kept = λ q f z. refl; sums = λ h. refl; clean = λ c. c; spent = omega arith }

module _ (ps qs : List Page) (own after : Pages) (k : ℕ) (m : Moved ps qs own after k) where
  pub moved_apart : Apart ps own → Apart qs after
  moved_apart a q = let s = m.sums (only q) in let b = a q in omega arith

  -- what another owns besides is kept
  pub beside : (more : Pages) → Moved ps qs (λ h. own h + more h) (λ h. after h + more h) k
  beside more =
      record {
        same_length = m.same_length;
        kept = λ q f z. m.kept q f (let y : own (only q) + more (only q) ≡ 0 = z in omega arith);
        sums = λ h. let s = m.sums h in omega arith;
        clean = m.clean;
        spent = m.spent;
      }

  pub again : (own₁ after₁ : Pages) → ((h : ℕ → ℕ) → own₁ h ≡ own h) → ((h : ℕ → ℕ) → after₁ h ≡ after h) → Moved ps qs own₁ after₁ k
  again own₁ after₁ p r =
      record {
        same_length = m.same_length;
        kept = λ q f z. m.kept q f (sym (p (only q)) ∙ z);
        sums = λ h. let s = m.sums h in let a = p h in let b = r h in omega arith;
        clean = m.clean;
        spent = m.spent;
      }

  pub then : (rs : List Page) (last : Pages) (l : ℕ) → Moved qs rs after last l → Moved ps rs own last (k + l)
  then rs last l n =
      record {
        same_length = n.same_length ∙ m.same_length;
        kept = λ q f z.
            let e = m.kept q f z in
            let g : is_free (page qs q) ≡ false = subst (λ (x : Page). is_free x ≡ false) (sym e) f in
            let s = m.sums (only q) in
            let a = free_only ps q f in
            n.kept q g (omega arith) ∙ e;
        sums = λ h. n.sums h ∙ m.sums h;
        clean = λ c. n.clean (m.clean c);
        spent = let a = m.spent in let b = n.spent in omega arith;
      }

-- the three moves
differs : (p q : ℕ) → only q p ≡ 0 → q ≡ p → ⊥
differs p q z e = let a : eqb q p ≡ true = eq-eqb q p e in let b : only q p ≡ 1 = rw a in omega arith

module _ (ps : List Page) (p : ℕ) (x : Page) (inside : p < length ps) where
  put_clean : (is_free x ≡ true → x ≡ free_page) → Clean ps → Clean (set ps p x)
  put_clean f c q e = by_test (eqb q p) refl
    where
      by_test : (b : Bool) → eqb q p ≡ b → page (set ps p x) q ≡ free_page
      by_test true d =
          let s : page (set ps p x) q ≡ x = ap (page (set ps p x)) (eqb-true q p d) ∙ get_or-set_same ps p x free_page inside in
          s ∙ f (subst (λ (y : Page). is_free y ≡ true) s e)
      by_test false d =
          let s = get_or-set_other ps p q x free_page (eqb-false q p d) in
          s ∙ c q (subst (λ (y : Page). is_free y ≡ true) s e)

  pub write : is_free (page ps p) ≡ false → is_free x ≡ false → Moved ps (set ps p x) (λ h. h p) (λ h. h p) 0
  write f g =
      record {
        same_length = length-set ps p x;
        kept = λ q e z. get_or-set_other ps p q x free_page (differs p q z);
        sums = λ h.
            let a = free_put ps h p x inside in
            let b : free_at ps h p ≡ 0 = rw f in
            let c : cond (is_free x) (h p) 0 ≡ 0 = rw g in
            omega arith;
        clean = put_clean (λ e. absurd (false≢true (sym g ∙ e)));
        spent = let a = free_set ps p x inside in let b : count_free (page ps p) ≡ 0 = rw f in omega arith;
      }

  pub take_up : is_free (page ps p) ≡ true → is_free x ≡ false → Moved ps (set ps p x) (λ h. 0) (λ h. h p) 1
  take_up f g =
      record {
        same_length = length-set ps p x;
        kept = λ q e z. get_or-set_other ps p q x free_page (λ d. true≢false (sym f ∙ ap (λ (i : ℕ). is_free (page ps i)) (sym d) ∙ e));
        sums = λ h.
            let a = free_put ps h p x inside in
            let b : free_at ps h p ≡ h p = rw f in
            let c : cond (is_free x) (h p) 0 ≡ 0 = rw g in
            omega arith;
        clean = put_clean (λ e. absurd (false≢true (sym g ∙ e)));
        spent = let a = free_set ps p x inside in let b = count_free_most (page ps p) in omega arith;
      }

module _ (ps : List Page) (p : ℕ) (inside : p < length ps) where
  pub release : is_free (page ps p) ≡ false → Moved ps (set ps p free_page) (λ h. h p) (λ h. 0) 0
  release f =
      record {
        same_length = length-set ps p free_page;
        kept = λ q e z. get_or-set_other ps p q free_page free_page (differs p q z);
        sums = λ h.
            let a = free_put ps h p free_page inside in
            let b : free_at ps h p ≡ 0 = rw f in
            omega arith;
        clean = put_clean ps p free_page inside (λ e. refl);
        spent = let a = free_set ps p free_page inside in let b : count_free (page ps p) ≡ 0 = rw f in omega arith;
      }
