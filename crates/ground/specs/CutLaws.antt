-- The cut law: what the rule leaves and what it removes, on one range and then on boxes.
use Rattle.std.specs.Prelude.{Bool, ◌&&◌, ◌||◌, ◌⊎◌, ◌≡◌, ℕ, ◌+◌, ◌-◌, ◌≤◌, ◌<◌}
use Rattle.std.proofs.Math.Bool.{true, false, not, xor, cond, and-true, and-false}
use Rattle.std.specs.Bool.{beq}
use Rattle.std.proofs.lemmas.Bool.{false≢true}
use Rattle.std.proofs.Common.{true≢false, ◌∙◌, arith}
use borrow.Author.Tests.{ltb-true, ltb-false, not-true, not-false}
use Rattle.std.proofs.Math.Dec.{ltb}
use Rattle.std.proofs.Math.Logic.{◌⊎◌.inl, ◌⊎◌.inr, ⊎_elim}
use Rattle.std.proofs.Math.Path.{refl, sym, ap, subst}
use Rattle.std.proofs.Math.Nat.{le_trans}
use Rattle.ground.specs.Axes.{beside, placed, on_at, touching_each, touching_at, covering_each, covering_beside, legal_each, legal_at, has_at, limit_on, cell_on}
use Rattle.ground.specs.BoxLaws.{covers_touched}
use Rattle.ground.specs.Boxes.{Cell, has, holds, touches_on, touches, covers_on, covers, legal}
use Rattle.ground.specs.Cutting.{Axis, Axis.east, Axis.north, Axis.day, on, at, covers_beside, covers_one_end, cuts_on, left_on, away_on, rest_on, left, away, cut, removed}
use Rattle.ground.specs.Facts.{Holding, holding, holds_so, lies_past, lies_before, TouchingOn, touches_on_so, touching_on, Touching, CoveringOn, LegalOn, Legal, touching, touches_so, covers_so, covering, lawful, legal_so}
use Rattle.ground.specs.Tests.{both, three, joint_three, either, first_of, second_of, same_test, fails, below_or_not}
use Rattle.ground.specs.declared.boxes.Range.{Range}
use Rattle.ground.specs.declared.boxes.Box.{Box}
use Rattle.ground.specs.declared.boxes.Cut.{Cut}
use Rattle.ground.specs.declared.boxes.Cut.TheVariants.{Covered, Left, Unchanged}

-- what the code tests, as the rule says it
module _ (c b : Range) where
  -- l tells whether c covers b's low end, h whether it covers the high end
  pub covers_low : (l : Bool) → l ≡ holds c b.low → l && ltb c.high b.high ≡ true → (holds c b.low ≡ true) × (c.high < b.high)
  covers_low l e t = let k = both l (ltb c.high b.high) t in (sym e ∙ k.0, ltb-true c.high b.high k.1)

  pub covers_high : (h : Bool) → h ≡ holds c b.high → h && ltb b.low c.low ≡ true → (holds c b.high ≡ true) × (b.low < c.low)
  covers_high h e t = let k = both h (ltb b.low c.low) t in (sym e ∙ k.0, ltb-true b.low c.low k.1)

  pub leaves_past : (l : Bool) → l ≡ holds c b.low → l && ltb c.high b.high ≡ true → record { low = c.high + 1; high = b.high } ≡ rest_on c b
  unfolding rest_on covers_one_end left_on xor
  leaves_past l e t =
      let p = covers_low l e t in
      let h = holding c b.low p.0 in
      let u = touches_on_so c b (omega arith) in
      let n = fails (holds c b.high) (λ f. let g = holding c b.high f in omega arith) in
      rw (p.0, n, u)

  pub leaves_before : (h : Bool) → h ≡ holds c b.high → h && ltb b.low c.low ≡ true → record { low = b.low; high = c.low - 1 } ≡ rest_on c b
  unfolding rest_on covers_one_end left_on xor
  leaves_before h e t =
      let p = covers_high h e t in
      let k = holding c b.high p.0 in
      let u = touches_on_so c b (omega arith) in
      let n = fails (holds c b.low) (λ f. let g = holding c b.low f in omega arith) in
      rw (p.0, n, u)

  pub leaves_all : (l h : Bool) → l ≡ holds c b.low → l && ltb c.high b.high ≡ false → h ≡ holds c b.high → h && ltb b.low c.low ≡ false → b ≡ rest_on c b
  unfolding rest_on covers_one_end xor
  leaves_all l h pl p ph q = by_ends l h (touches_on c b) (sym pl) (sym ph) refl p q
    where
      by_ends : (l h t : Bool) → holds c b.low ≡ l → holds c b.high ≡ h → touches_on c b ≡ t → l && ltb c.high b.high ≡ false → h && ltb b.low c.low ≡ false → b ≡ rest_on c b
      by_ends l h false pl ph pt p q = rw pt
      by_ends true true true pl ph pt p q = rw (pl, ph, pt)
      by_ends false false true pl ph pt p q = rw (pl, ph, pt)
      by_ends true false true pl ph pt p q =
          let f = holding c b.low pl in
          let t = touching_on c b pt in
          let g = ltb-false c.high b.high p in
          absurd (false≢true (sym ph ∙ holds_so c b.high (omega arith)))
      by_ends false true true pl ph pt p q =
          let f = holding c b.high ph in
          let t = touching_on c b pt in
          let g = ltb-false b.low c.low q in
          absurd (false≢true (sym pl ∙ holds_so c b.low (omega arith)))

  rest_left : touches_on c b ≡ true → covers_one_end c b ≡ true → rest_on c b ≡ left_on c b
  unfolding rest_on
  rest_left t o = rw (t, o)

-- the rule, a case at a time
module _ (c b : Box) where
  -- where the box is not covered, an axis that is cut is not covered, so that no other is cut
  not_covered : (x : Axis) → covers c b ≡ false → covers_beside x c b ≡ true → covers_on (on x c) (on x b) ≡ false
  unfolding covers
  not_covered east p q = let h = both (covers_on c.north b.north) (covers_on c.day b.day) q in simp (h.0, h.1, and-true) at p
  not_covered north p q = let h = both (covers_on c.east b.east) (covers_on c.day b.day) q in simp (h.0, h.1, and-true) at p
  not_covered day p q = let h = both (covers_on c.east b.east) (covers_on c.north b.north) q in simp (h.0, h.1) at p

  cut_at : (x : Axis) → covers c b ≡ false → covers_on (on x c) (on x b) ≡ false → cuts_on x c b ≡ true → cut c b ≡ Left (left x c b)
  unfolding cut cuts_on
  cut_at east p n q = rw (p, q)
  cut_at north p n q = simp (p, n, q)
  cut_at day p n q = simp (p, n, q, and-false)

-- the tests that the code makes of a candidate and a box: covered on each axis, and touched
pub record Tested (c b : Box) (e n d t : Bool) : Type 0 where
  pub east : e ≡ covers_on c.east b.east
  pub north : n ≡ covers_on c.north b.north
  pub day : d ≡ covers_on c.day b.day
  pub touch : t ≡ touches c b

-- the tests of the two axes beside one
abbrev pub tests_beside : Axis → Bool → Bool → Bool → Bool
tests_beside east e n d = n && d
tests_beside north e n d = e && d
tests_beside day e n d = e && n

module _ (c b : Box) (e n d t : Bool) (h : Tested c b e n d t) where
  covers_is : covers c b ≡ (e && n && d)
  unfolding covers
  covers_is = rw (h.east, h.north, h.day)

  pub cut_covered : e && n && d ≡ true → Covered ≡ cut c b
  unfolding cut
  cut_covered p = rw (covers_is ∙ p)

  pub cut_apart : e && n && d ≡ false → not t ≡ true → Unchanged ≡ cut c b
  unfolding cut cuts_on
  cut_apart p q = simp (covers_is ∙ p, sym h.touch ∙ not-true t q, and-false)

  beside_is : (x : Axis) → covers_beside x c b ≡ tests_beside x e n d
  beside_is east = rw (h.north, h.day)
  beside_is north = rw (h.east, h.day)
  beside_is day = rw (h.east, h.north)

  pub cut_on : (x : Axis) (o : Bool) (r : Range) → e && n && d ≡ false → not t ≡ false → o ≡ covers_one_end (on x c) (on x b) → tests_beside x e n d && o ≡ true → r ≡ rest_on (on x c) (on x b) → Left (at x r b) ≡ cut c b
  unfolding left cuts_on
  cut_on x o r p q f g i =
      let k = both (tests_beside x e n d) o g in
      let v = covers_is ∙ p in
      let u = beside_is x ∙ k.0 in
      let w = sym f ∙ k.1 in
      let y = sym h.touch ∙ not-false t q in
      let l = rest_left (on x c) (on x b) (touches_on_so (on x c) (on x b) (touching_at c b (touching c b y) x)) w in
      let z = joint_three (covers_beside x c b) (touches c b) (covers_one_end (on x c) (on x b)) u y w in
      ap (λ s. Left (at x s b)) (i ∙ l) ∙ sym (cut_at c b x v (not_covered c b x v u) z)

  not_on : (x : Axis) (o : Bool) → not t ≡ false → o ≡ covers_one_end (on x c) (on x b) → tests_beside x e n d && o ≡ false → cuts_on x c b ≡ false
  unfolding cuts_on
  not_on x o q f g = rw (sym h.touch ∙ not-false t q, and-true, beside_is x, sym f) g

  pub cut_none : (o o' o'' : Bool) → e && n && d ≡ false → not t ≡ false → o ≡ covers_one_end c.east b.east → n && d && o ≡ false → o' ≡ covers_one_end c.north b.north → e && d && o' ≡ false → o'' ≡ covers_one_end c.day b.day → e && n && o'' ≡ false → Unchanged ≡ cut c b
  unfolding cut
  cut_none o o' o'' p q f g f' g' f'' g'' = rw (covers_is ∙ p, not_on east o q f g, not_on north o' q f' g', not_on day o'' q f'' g'')

-- on one range: c touches b and covers exactly one end of it
record RangeCut (c b l a : Range) : Type 0 where
  pub left_inside : CoveringOn b l
  pub away_inside : CoveringOn b a
  pub away_covered : CoveringOn c a
  pub left_order : l.low ≤ l.high
  pub apart : (x : ℕ) → Holding l x → Holding a x → ⊥
  pub touched : (q : Range) → q.low ≤ q.high → TouchingOn q b → TouchingOn q l ⊎ TouchingOn q a

module _ (c b : Range) where
  past : c.low ≤ b.low → b.low ≤ c.high → c.high < b.high → RangeCut c b (record { low = c.high + 1; high = b.high }) (record { low = b.low; high = c.high })
  past p q r =
      record {
        left_inside = omega arith;
        away_inside = omega arith;
        away_covered = omega arith;
        left_order = omega arith;
        apart = λ x h k. omega arith;
        touched = λ s o h. ⊎_elim (λ w. inl (omega arith)) (λ w. inr (omega arith)) (below_or_not c.high s.high);
      }

  before : b.low < c.low → c.low ≤ b.high → b.high ≤ c.high → RangeCut c b (record { low = b.low; high = c.low - 1 }) (record { low = c.low; high = b.high })
  before p q r =
      record {
        left_inside = omega arith;
        away_inside = omega arith;
        away_covered = omega arith;
        left_order = omega arith;
        apart = λ x h k. omega arith;
        touched = λ s o h. ⊎_elim (λ w. inl (omega arith)) (λ w. inr (omega arith)) (below_or_not s.low c.low);
      }

  range_cut : touches_on c b ≡ true → covers_one_end c b ≡ true → RangeCut c b (left_on c b) (away_on c b)
  unfolding covers_one_end left_on away_on xor
  range_cut t o = by_end (holds c b.low) (holds c b.high) refl refl o
    where
      by_end : (l h : Bool) → holds c b.low ≡ l → holds c b.high ≡ h → not (beq l h) ≡ true → RangeCut c b (cond l (record { low = c.high + 1; high = b.high }) (record { low = b.low; high = c.low - 1 })) (cond l (record { low = b.low; high = c.high }) (record { low = c.low; high = b.high }))
      by_end true true pl ph e = absurd (false≢true e)
      by_end false false pl ph e = absurd (false≢true e)
      by_end true false pl ph e =
          let f = holding c b.low pl in
          let g = touching_on c b t in
          past (omega arith) (omega arith) (lies_past c b.high ph (omega arith))
      by_end false true pl ph e =
          let f = holding c b.high ph in
          let g = touching_on c b t in
          before (lies_before c b.low pl (omega arith)) (omega arith) (omega arith)

-- the cut law: what is left of b and what is removed from it by the candidate c
pub record CutLaw (c b l a : Box) : Type 0 where
  -- both lie inside the old box
  pub left_inside : covers b l ≡ true
  pub away_inside : covers b a ≡ true
  -- they have no cell in common
  pub apart : (x : Cell) → has l x ≡ true → has a x ≡ true → ⊥
  -- a legal question touches the old box exactly if it touches one of the two
  pub touched : (q : Box) → legal q ≡ true → touches q b ≡ touches q l || touches q a
  -- the candidate covers what is removed
  pub away_covered : covers c a ≡ true
  -- what is left is legal if the old box was
  pub left_legal : legal b ≡ true → legal l ≡ true

-- another range on one axis of b
module _ (x : Axis) (r : Range) (b : Box) where
  inside : CoveringOn (on x b) r → covers b (at x r b) ≡ true
  inside h =
      let self : (y : Axis) → CoveringOn (on y b) (on y b) = λ y. omega arith in
      covers_so b (at x r b) (covering_each b (at x r b) (placed (λ y s. CoveringOn (on y b) s) x r b h (beside (λ y. CoveringOn (on y b) (on y b)) x self)))

  touching_placed : (q : Box) → Touching q b → TouchingOn (on x q) r → touches q (at x r b) ≡ true
  touching_placed q h k =
      touches_so q (at x r b) (touching_each q (at x r b) (placed (λ y s. TouchingOn (on y q) s) x r b k (beside (λ y. TouchingOn (on y q) (on y b)) x (touching_at q b h))))

  legal_placed : Legal b → LegalOn (limit_on x) r → legal (at x r b) ≡ true
  legal_placed h k =
      legal_so (at x r b) (legal_each (at x r b) (placed (λ y s. LegalOn (limit_on y) s) x r b k (beside (λ y. LegalOn (limit_on y) (on y b)) x (legal_at b h))))

  held_there : (p : Cell) → has (at x r b) p ≡ true → Holding r (cell_on x p)
  held_there p e = subst (λ s. Holding s (cell_on x p)) (on_at x r b) (has_at (at x r b) p e x)

-- the cases of the rule's answer differ
the_box : (m l : Box) → Left m ≡ Left l → m ≡ l
the_box m l e = cc

not_covered_left : (l : Box) → Covered ≡ Left l → ⊥
not_covered_left l e = let z : ◌≡◌ {A = ℕ} 0 1 = cc in omega arith

not_unchanged_left : (l : Box) → Unchanged ≡ Left l → ⊥
not_unchanged_left l e = let z : ◌≡◌ {A = ℕ} 0 1 = cc in omega arith

not_left_covered : (l : Box) → Left l ≡ Covered → ⊥
not_left_covered l e = not_covered_left l (sym e)

not_unchanged_covered : Unchanged ≡ Covered → ⊥
not_unchanged_covered e = let z : ◌≡◌ {A = ℕ} 0 1 = cc in omega arith

module _ (c b : Box) where
  cut_law_on : (x : Axis) → cuts_on x c b ≡ true → CutLaw c b (left x c b) (away x c b)
  unfolding cuts_on left away
  cut_law_on x e =
      let h = three (covers_beside x c b) (touches c b) (covers_one_end (on x c) (on x b)) e in
      let k = range_cut (on x c) (on x b) (touches_on_so (on x c) (on x b) (touching_at c b (touching c b h.1) x)) h.2 in
      let l = left_on (on x c) (on x b) in
      let a = away_on (on x c) (on x b) in
      record {
        left_inside = inside x l b k.left_inside;
        away_inside = inside x a b k.away_inside;
        apart = λ p u v. k.apart (cell_on x p) (held_there x l b p u) (held_there x a b p v);
        touched = λ q e. same_test (touches q b) (touches q (at x l b) || touches q (at x a b))
            (λ t. ⊎_elim
            (λ w. first_of (touches q (at x l b)) (touches q (at x a b)) (touching_placed x l b q (touching q b t) w))
            (λ w. second_of (touches q (at x l b)) (touches q (at x a b)) (touching_placed x a b q (touching q b t) w))
            (k.touched (on x q) (legal_at q (lawful q e) x).order (touching_at q b (touching q b t) x)))
            (λ t. ⊎_elim
            (λ w. covers_touched b (at x l b) q (inside x l b k.left_inside) w)
            (λ w. covers_touched b (at x a b) q (inside x a b k.away_inside) w)
            (either (touches q (at x l b)) (touches q (at x a b)) t));
        away_covered = covers_so c (at x a b) (covering_each c (at x a b) (placed (λ y s. CoveringOn (on y c) s) x a b k.away_covered (covering_beside x c b h.0)));
        left_legal = λ e. let f = legal_at b (lawful b e) x in legal_placed x l b (lawful b e) (record { order = k.left_order; within = le_trans k.left_inside.high f.within });
      }

  -- the law, of the rule itself
  pub cut_law : (l : Box) → cut c b ≡ Left l → CutLaw c b l (removed c b)
  unfolding cut removed
  cut_law l = by_test (covers c b) (cuts_on east c b) (cuts_on north c b) (cuts_on day c b) refl refl refl
    where
      by_test : (v e n d : Bool) → cuts_on east c b ≡ e → cuts_on north c b ≡ n → cuts_on day c b ≡ d → cond v Covered (cond e (Left (left east c b)) (cond n (Left (left north c b)) (cond d (Left (left day c b)) Unchanged))) ≡ Left l → CutLaw c b l (cond e (away east c b) (cond n (away north c b) (away day c b)))
      by_test true e n d pe pn pd q = absurd (not_covered_left l q)
      by_test false true n d pe pn pd q = subst (λ m. CutLaw c b m (away east c b)) (the_box (left east c b) l q) (cut_law_on east pe)
      by_test false false true d pe pn pd q = subst (λ m. CutLaw c b m (away north c b)) (the_box (left north c b) l q) (cut_law_on north pn)
      by_test false false false true pe pn pd q = subst (λ m. CutLaw c b m (away day c b)) (the_box (left day c b) l q) (cut_law_on day pd)
      by_test false false false false pe pn pd q = absurd (not_unchanged_left l q)

  pub covered_covers : cut c b ≡ Covered → covers c b ≡ true
  unfolding cut
  covered_covers = by_test (covers c b) (cuts_on east c b) (cuts_on north c b) (cuts_on day c b)
    where
      by_test : (v e n d : Bool) → cond v Covered (cond e (Left (left east c b)) (cond n (Left (left north c b)) (cond d (Left (left day c b)) Unchanged))) ≡ Covered → v ≡ true
      by_test true e n d q = refl
      by_test false true n d q = absurd (not_left_covered (left east c b) q)
      by_test false false true d q = absurd (not_left_covered (left north c b) q)
      by_test false false false true q = absurd (not_left_covered (left day c b) q)
      by_test false false false false q = absurd (not_unchanged_covered q)
