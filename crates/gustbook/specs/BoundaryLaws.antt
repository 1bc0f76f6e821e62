-- What holds at the boundary: a number that no word of a page holds is refused for what it is, and a refusal leaves all that was lent as it was.
use Prim.Native.Nat.{ℕ, zero, suc, ◌*◌, ◌≤◌}
use Rattle.std.specs.Prelude.{Bool, ◌&&◌, List, ◌≡◌, length, get_or}
use Rattle.std.proofs.Math.Bool.{true, false}
use Rattle.std.proofs.Math.Path.{refl, sym}
use Rattle.std.proofs.Common.{ap, ◌∙◌, arith, ltb-true, eqb-true, take_all}
use Rattle.std.proofs.Math.Dec.{leb, ltb, eqb}
use Rattle.asking.specs.Asking.{Search.refused as turned_away, asked, answered, may_open, search_opened, search_page, search_book, least_root}
use Rattle.std.specs.Prelude.{Err}
use Rattle.ground.specs.declared.refusals.Refusal.TheVariants as no
use Rattle.ground.specs.Boxes.{legal}
use Rattle.ground.specs.Tests.{both, three}
use Rattle.ground.specs.declared.boxes.Box.{Box}
use Rattle.index.specs.Calls.{unchanged}
use Rattle.wide.specs.Wide.{greatest}
use Rattle.pages.specs.Facts.{fitting}
use Rattle.pages.specs.Layout.{page_words, page_entries, level_at, table_fits, pages_of}
use Rattle.pages.specs.LayoutLaws.{spread, spread_take, level_in, pages_at, pages_length}
use Rattle.pages.specs.declared.Page.{Page}
use Rattle.pages.specs.declared.Small.{Small}
use Rattle.wellformed.specs.Parts.{parts}
use Rattle.wellformed.specs.WellFormed.{page, root_stands, well_formed}
use Rattle.rules.specs.Record.{refusal, record_into}
use Rattle.rules.specs.RecordLaws.{refused_law}
use Rattle.gustbook.specs.Boundary.{small_of, numbers_of, box_of, LeftInNumbers, left_in_numbers, Told, Recorded, record_leaves}

-- Five numbers are the small record that they make: a refusal leaves each of them as it was.
pub five_numbers : (w : List ℕ) → length w ≡ 5 → numbers_of (small_of w) ≡ w
unfolding spread
five_numbers w h = spread_take 5 0 w (omega arith) ∙ take_all 5 w (omega arith)

pub left_unchanged : (n : ℕ) (t w : List ℕ) → length w ≡ 5 → left_in_numbers (unchanged n t (small_of w)) ≡ record { refusal = n; table = t; small = w }
left_unchanged n t w h = ap (λ x. record { refusal = n; table = t; small = x }) (five_numbers w h)

pub record_unchanged : (t w six lent : List ℕ) (v : ℕ) → length w ≡ 5 → (refusal t (small_of w) (box_of six) v ≡ 0 → ⊥)
    → record_leaves (record_into t (small_of w) (box_of six) v) lent ≡ record { told = record { refusal = refusal t (small_of w) (box_of six) v; answer = lent }; table = t; small = w }
record_unchanged t w six lent v h d =
    ap (λ x. record_leaves x lent) (refused_law t (small_of w) (box_of six) v d)
    ∙ ap (λ x. record { told = record { refusal = refusal t (small_of w) (box_of six) v; answer = lent }; table = t; small = x }) (five_numbers w h)

-- Each promise settles all that a call returns and leaves: two results that it allows are equal. (Saving: `save_settled` of the index.)
pub left_settled : (x a b : LeftInNumbers) → a ≡ x → b ≡ x → (a.refusal ≡ b.refusal) × (a.table ≡ b.table) × (a.small ≡ b.small)
left_settled x a b e f =
    let g = e ∙ sym f in
    (ap (λ (y : LeftInNumbers). y.refusal) g, ap (λ (y : LeftInNumbers). y.table) g, ap (λ (y : LeftInNumbers). y.small) g)

pub told_settled : (x a b : Told) → a ≡ x → b ≡ x → (a.refusal ≡ b.refusal) × (a.answer ≡ b.answer)
told_settled x a b e f = let g = e ∙ sym f in (ap (λ (y : Told). y.refusal) g, ap (λ (y : Told). y.answer) g)

pub record_settled : (x a b : Recorded) → a ≡ x → b ≡ x → (a.told ≡ b.told) × (a.table ≡ b.table) × (a.small ≡ b.small)
record_settled x a b e f =
    let g = e ∙ sym f in
    (ap (λ (y : Recorded). y.told) g, ap (λ (y : Recorded). y.table) g, ap (λ (y : Recorded). y.small) g)

-- What a root that stands is known by, in a table of 16-bit words.
abbrev pub Words : List ℕ → Type 0
Words t = (k : ℕ) → get_or t k 0 ≤ greatest

module _ (t : List ℕ) (s : Small) (q : Box) (words : Words t) (fits : table_fits t ≡ true) where
  stands_low : ltb s.root (length (pages_of t)) ≡ true → (page (pages_of t) s.root).level ≡ s.height → (s.root ≤ greatest) × (s.height ≤ greatest)
  stands_low e f =
      let r = ltb-true s.root (length (pages_of t)) e in
      let n = pages_length t in
      let level : s.height ≡ level_at t s.root = sym f ∙ ap (λ (x : Page). x.level) (pages_at t s.root (omega arith)) ∙ level_in t s.root in
      (omega (arith, r, n, (fitting t fits).most), omega (arith, level, words (s.root * page_words)))

  -- A root or a height above 65,535 is a damaged book: to the check,
  pub wide_damaged : ((s.root ≤ greatest) × (s.height ≤ greatest) → ⊥) → well_formed t s ≡ false
  unfolding root_stands
  wide_damaged d = by_verdict (well_formed t s) refl
    where
      by_verdict : (b : Bool) → well_formed t s ≡ b → b ≡ false
      by_verdict false e = refl
      by_verdict true e =
          let h = three (ltb s.root (length (pages_of t))) (eqb (page (pages_of t) s.root).level s.height) (leb 1 s.height) (parts t s e).root in
          absurd (d (stands_low h.0 (eqb-true (page (pages_of t) s.root).level s.height h.1)))

  -- a page that may be opened has a number in the table and the level that is expected
  opens : (n : ℕ) → s.height ≡ suc n → may_open (pages_of t) (suc n) (least_root s.height) s.root 0 ≡ true → (s.root ≤ greatest) × (s.height ≤ greatest)
  unfolding may_open
  opens n e f =
      let ps = pages_of t in
      let x = page ps s.root in
      let a = ltb s.root (length ps) in
      let b = leb 1 (suc n) && eqb x.level (suc n) in
      let c = leb (least_root s.height) x.count && leb x.count page_entries in
      let h = both (a && b && c) (ltb 0 (length ps)) f in
      let g = three a b c h.0 in
      let k = both (leb 1 (suc n)) (eqb x.level (suc n)) g.1 in
      stands_low g.0 (eqb-true x.level (suc n) k.1 ∙ sym e)

  -- and to a legal question.
  pub wide_asked : legal q ≡ true → ((s.root ≤ greatest) × (s.height ≤ greatest) → ⊥) → asked t s q ≡ Err no.Damaged
  unfolding asked answered search_book search_page search_opened
  wide_asked l d = rw (fits, l) (ap answered (at_root s.height refl))
    where
      shut : (n : ℕ) → s.height ≡ suc n → (b : Bool) → may_open (pages_of t) (suc n) (least_root s.height) s.root 0 ≡ b → b ≡ false
      shut n e false f = refl
      shut n e true f = absurd (d (opens n e f))

      at_root : (h : ℕ) → s.height ≡ h → search_page (pages_of t) q h (least_root s.height) s.root 0 0 ≡ turned_away
      at_root zero e = refl
      at_root (suc n) e = rw (shut n e (may_open (pages_of t) (suc n) (least_root s.height) s.root 0) refl) refl
