-- The root in the code's order: the walk from it, the new root, the collapse.
use Rattle.std.specs.Prelude.{ℕ, zero, suc, ◌+◌, ◌-◌, ◌<◌, min, Bool, true, false, ◌≡◌, refl, leb, eqb, length, get_or, set}
use mathlib.Core.List.{List, [], ◌∷◌}
use Rattle.std.proofs.Common.{sym, ap₂, subst, ◌∙◌, arith, eqb-true, get_or-take}
use Rattle.std.proofs.Math.Path.{ap}
use Rattle.ground.specs.Tests.{both}
use Rattle.ground.specs.declared.boxes.Box.{Box}
use Rattle.pages.specs.Layout.{table_fits, pages_of, zero_entry, free_page}
use Rattle.pages.specs.Summary.{in_use, summary_of}
use Rattle.pages.specs.declared.Entry.{Entry}
use Rattle.pages.specs.declared.Page.{Page}
use Rattle.split.specs.Split.{page_from}
use Rattle.wellformed.specs.WellFormed.{page}
use Rattle.recording.specs.declared.walk.Walked as code-walked
use Rattle.recording.specs.declared.scan.Sought as code-sought
use Rattle.rules.specs.CameLaws.{Before, Begun, strike_begun}
use Rattle.rules.specs.EmptyRoot.{leaf_begun}
use Rattle.rules.specs.Recording.{walk_down, leaf_if_empty, from_root, Rooted, one_entry, collapse_by, collapse}
use Rattle.rules.specs.Strike.{strike_page}
use Rattle.recording.specs.LookSteps.{Within}
use Rattle.recording.specs.TableSteps.{still_fits, UsedAt}
use Rattle.recording.specs.WalkSteps.{MayStrike, MayWalk, may_strike}
use Rattle.recording.specs.WithinLaws.{legal_within}
use Rattle.recording.specs.Views.{Leaves, Frees, most_struck, sought_of, Walks, WalksOn}

-- from the root: the strike, and step 2
pub may_begin : (n v : ℕ) (t : List ℕ) (q : Box) (r : ℕ) (s : code-sought.Sought) → table_fits t ≡ true → Before n v (pages_of t) r (sought_of s) → q ≡ s.place → MayStrike t q r s.place
may_begin n v t q r s f h e = may_strike n v t q r (sought_of s) f h (subst (λ (x : Box). Within x s.place) (sym e) (legal_within s.place h.lawful))

module _ (n v r k used : ℕ) (t u : List ℕ) (q : Box) (s : code-sought.Sought) (h : Before n v (pages_of t) r (sought_of s)) (may : MayStrike t q r s.place) (f : Frees t u k (strike_page n s.place v (pages_of t) r)) (a : UsedAt u r used) where
  struck : Begun n v (pages_of u) r (sought_of s)
  struck = subst (λ (ps : List Page). Begun n v ps r (sought_of s)) (sym f.pages_are) (strike_begun n v (pages_of t) r (sought_of s) h)

  counted : k ≡ min (strike_page n s.place v (pages_of t) r).records most_struck
  counted = omega (arith, f.struck_is)

  goes_on : (es : List Entry) → in_use (page (pages_of u) r) ≡ es → from_root n v (pages_of t) r (sought_of s) ≡ leaf_if_empty es n v (pages_of u) r (sought_of s) (strike_page n s.place v (pages_of t) r).records
  unfolding from_root
  goes_on es e =
      let m = (strike_page n s.place v (pages_of t) r).records in
      ap (λ (ps : List Page). leaf_if_empty (in_use (page ps r)) n v ps r (sought_of s) m) (sym f.pages_are) ∙ ap (λ (l : List Entry). leaf_if_empty l n v (pages_of u) r (sought_of s) m) e

  -- no entry is left
  module _ (none : used ≡ 0) (w : List ℕ) (y : Page) (e : y ≡ page_from 1 []) (l : Leaves u w (set (pages_of u) r y)) where
    empty : in_use (page (pages_of u) r) ≡ []
    empty = no_entry (in_use (page (pages_of u) r)) (omega (arith, a.is))
      where
        no_entry : (es : List Entry) → length es ≡ 0 → es ≡ []
        no_entry [] z = refl
        no_entry (x ∷ es) z = absurd (omega arith)

    leaf : pages_of w ≡ set (pages_of u) r (page_from 1 [])
    leaf = l.pages_are ∙ ap (set (pages_of u) r) e

    pub may_walk_empty : MayWalk 0 v w q r (sought_of s)
    may_walk_empty =
        record {
          fits = still_fits t w may.fits (l.same_length ∙ f.same_length);
          begun = subst (λ (ps : List Page). Begun 0 v ps r (sought_of s)) (sym leaf) (leaf_begun n v (pages_of u) r (sought_of s) struck.before empty);
          some = λ z. absurd (omega arith);
          within = may.within;
        }

    pub from_empty : (x : List ℕ) (o : code-walked.Walked) → WalksOn w x k o (walk_down 0 v (pages_of w) r (sought_of s)) → Walks t x o (from_root n v (pages_of t) r (sought_of s))
    from_empty x o g =
        let m = (strike_page n s.place v (pages_of t) r).records in
        let b = g.walks m counted in
        let same : walk_down 0 v (pages_of w) r (sought_of s) m ≡ from_root n v (pages_of t) r (sought_of s) = ap (λ (ps : List Page). walk_down 0 v ps r (sought_of s) m) leaf ∙ sym (goes_on [] empty) in
        subst (Walks t x o) same
        (record { same_length = b.same_length ∙ l.same_length ∙ f.same_length; pages_are = b.pages_are; became_is = b.became_is; sought_is = b.sought_is; struck_is = b.struck_is })

  -- some are left
  module _ (some : used ≡ 0 → ⊥) where
    pub may_walk_left : MayWalk n v u q r (sought_of s)
    may_walk_left = record { fits = still_fits t u may.fits f.same_length; begun = struck; some = λ z. omega (arith, a.is); within = may.within }

    pub from_left : (x : List ℕ) (o : code-walked.Walked) → WalksOn u x k o (walk_down n v (pages_of u) r (sought_of s)) → Walks t x o (from_root n v (pages_of t) r (sought_of s))
    from_left x o g =
        let m = (strike_page n s.place v (pages_of t) r).records in
        let b = g.walks m counted in
        subst (Walks t x o) (by_left (in_use (page (pages_of u) r)) refl)
        (record { same_length = b.same_length ∙ f.same_length; pages_are = b.pages_are; became_is = b.became_is; sought_is = b.sought_is; struck_is = b.struck_is })
      where
        by_left : (es : List Entry) → in_use (page (pages_of u) r) ≡ es → walk_down n v (pages_of u) r (sought_of s) (strike_page n s.place v (pages_of t) r).records ≡ from_root n v (pages_of t) r (sought_of s)
        by_left [] e = absurd (let z = ap length e in omega (arith, a.is))
        by_left (y ∷ es) e = sym (goes_on (y ∷ es) e)

-- an empty leaf
pub leaf_made : (x : Page) → x ≡ free_page → record { level = 1; count = x.count; entries = x.entries } ≡ page_from 1 []
unfolding page_from
leaf_made x e = ap (λ (y : Page). record { level = 1; count = y.count; entries = y.entries }) e

-- a table with its root
pub record Roots (before after : List ℕ) (root : ℕ) (x : Rooted) : Type 0 where
  pub same_length : length after ≡ length before
  pub pages_are : pages_of after ≡ x.pages
  pub root_is : root ≡ x.root

pub root_stays : (t : List ℕ) (r : ℕ) → Roots t t r (record { pages = pages_of t; root = r })
root_stays t r = record { same_length = refl; pages_are = refl; root_is = refl }

-- the collapse, n more times
pub record Collapsing (n : ℕ) (before after : List ℕ) (r : ℕ) (target : Rooted) : Type 0 where
  pub same_length : length after ≡ length before
  pub leads : collapse n (pages_of after) r ≡ target

collapse_next : (n r c : ℕ) (t u w : List ℕ) (target : Rooted) → one_entry (page (pages_of u) r) ≡ true → c ≡ (get_or (in_use (page (pages_of u) r)) 0 zero_entry).child → Leaves u w (set (pages_of u) r free_page)
    → Collapsing (suc n) t u r target → Collapsing n t w c target
unfolding collapse
collapse_next n r c t u w target i f l h =
    let x = page (pages_of u) r in
    let k : x.count ≡ 1 = eqb-true x.count 1 (both (leb 2 x.level) (eqb x.count 1) i).1 in
    let j : c ≡ (get_or x.entries 0 zero_entry).child = f ∙ ap (λ (y : Entry). y.child) (get_or-take x.count x.entries 0 zero_entry (omega arith)) in
    let g : collapse n (pages_of w) c ≡ collapse (suc n) (pages_of u) r = ap₂ (λ ps b. collapse n ps b) l.pages_are j ∙ sym (ap (λ b. collapse_by b (collapse n) (pages_of u) r) i) in
    record { same_length = l.same_length ∙ h.same_length; leads = g ∙ h.leads }

pub collapse_turn : (n k r s c : ℕ) (t u w : List ℕ) (one : Bool) (target : Rooted) → k < n → one ≡ one_entry (page (pages_of u) r) → one ≡ true → s ≡ r → c ≡ (get_or (in_use (page (pages_of u) s)) 0 zero_entry).child → Leaves u w (set (pages_of u) r free_page)
    → Collapsing (n - k) t u r target → Collapsing (n - (k + 1)) t w c target
collapse_turn n k r s c t u w one target o d q z f l h =
    let e : n - k ≡ suc (n - (k + 1)) = omega arith in
    collapse_next (n - (k + 1)) r c t u w target (sym d ∙ q) (f ∙ ap (λ m. (get_or (in_use (page (pages_of u) m)) 0 zero_entry).child) z) l (rw e at h)

pub collapse_done : (n r : ℕ) (t u : List ℕ) (one : Bool) (target : Rooted) → one ≡ one_entry (page (pages_of u) r) → one ≡ false → Collapsing n t u r target → Roots t u r target
unfolding collapse
collapse_done zero r t u one target d q h = record { same_length = h.same_length; pages_are = ap (λ y. y.pages) h.leads; root_is = ap (λ y. y.root) h.leads }
collapse_done (suc n) r t u one target d q h =
    let i : one_entry (page (pages_of u) r) ≡ false = sym d ∙ q in
    let g : record { pages = pages_of u; root = r } ≡ target = sym (ap (λ b. collapse_by b (collapse n) (pages_of u) r) i) ∙ h.leads in
    record { same_length = h.same_length; pages_are = ap (λ y. y.pages) g; root_is = ap (λ y. y.root) g }

pub collapse_out : (n r : ℕ) (t u : List ℕ) (target : Rooted) → n ≡ 0 → Collapsing n t u r target → Roots t u r target
unfolding collapse
collapse_out zero r t u target l h = record { same_length = h.same_length; pages_are = ap (λ y. y.pages) h.leads; root_is = ap (λ y. y.root) h.leads }
collapse_out (suc n) r t u target l h = absurd (omega arith)

-- the level of a new root must fit a word
abbrev pub LevelFits : List Page → ℕ → Type 0
LevelFits ps r = (page ps r).level < 65_535

pub two_entries : (level : ℕ) (x : Page) (a b : Entry) → x ≡ free_page → record { level = level; count = 2; entries = set (set x.entries 0 a) 1 b } ≡ page_from level (a ∷ b ∷ [])
unfolding page_from
two_entries level x a b e = ap (λ (y : Page). record { level = level; count = 2; entries = set (set y.entries 0 a) 1 b }) e

pub above_is : (ps : List Page) (r q l : ℕ) (a b : Entry) (y : Page) → l ≡ (page ps r).level + 1 → a ≡ summary_of r (page ps r) → b ≡ summary_of q (page ps q) → y ≡ page_from l (a ∷ b ∷ []) → y ≡ page_from ((page ps r).level + 1) (summary_of r (page ps r) ∷ summary_of q (page ps q) ∷ [])
above_is ps r q l a b y e d f h = cc

-- a root that needs its level to fit, and its table in any case
pub record RootsIf (fits : Type 0) (before after : List ℕ) (root : ℕ) (x : Rooted) : Type 0 where
  pub same_length : length after ≡ length before
  pub roots : fits → Roots before after root x

pub record Above (ps : List Page) (r q : ℕ) (y : Page) : Type 0 where
  pub is : LevelFits ps r → y ≡ page_from ((page ps r).level + 1) (summary_of r (page ps r) ∷ summary_of q (page ps q) ∷ [])

pub above_made : (ps : List Page) (r q l : ℕ) (x old : Page) (a b : Entry) → old ≡ page ps r → x ≡ free_page → (old.level < 65_535 → l ≡ old.level + 1) → a ≡ summary_of r (page ps r) → b ≡ summary_of q (page ps q) → Above ps r q (record { level = l; count = 2; entries = set (set x.entries 0 a) 1 b })
above_made ps r q l x old a b o e h f g =
    let m : old.level ≡ (page ps r).level = ap (λ (y : Page). y.level) o in
    record { is = λ k. above_is ps r q l a b (record { level = l; count = 2; entries = set (set x.entries 0 a) 1 b }) (h (omega arith) ∙ ap (λ n. n + 1) m) f g (two_entries l x a b e) }

pub above_at_most : (ps : List Page) (r q l m : ℕ) (x : Page) (a b : Entry) → l ≡ (page ps r).level → x ≡ free_page → m ≡ min (l + 1) 65_535 → a ≡ summary_of r (page ps r) → b ≡ summary_of q (page ps q)
    → Above ps r q (record { level = m; count = 2; entries = set (set x.entries 0 a) 1 b })
above_at_most ps r q l m x a b e h s f g = above_made ps r q m x (page ps r) a b refl h (λ k. omega arith) f g
