-- The tests on boxes as facts on numbers, which arithmetic reads: a record beside each test, and a bridge each way.
use Rattle.std.specs.Prelude.{Bool, true, false, ◌&&◌, ◌≡◌, ℕ, ◌≤◌, ◌<◌}
use Rattle.std.proofs.lemmas.Bool.{false≢true}
use Rattle.std.proofs.Common.{⊎_elim, sym, ◌∙◌, arith}
use Rattle.ground.specs.Boxes.{holds, touches_on, touches, covers_on, covers, legal_on, legal, east_limit, north_limit, day_limit}
use Rattle.ground.specs.Tests.{three, joint_three, orders, ordered, below_or_not}
use Rattle.ground.specs.declared.boxes.Range.{Range}
use Rattle.ground.specs.declared.boxes.Box.{Box}

pub record Holding (r : Range) (x : ℕ) : Type 0 where
  pub from : r.low ≤ x
  pub to : x ≤ r.high

pub record TouchingOn (r s : Range) : Type 0 where
  pub one : r.low ≤ s.high
  pub other : s.low ≤ r.high

pub record Touching (a b : Box) : Type 0 where
  pub east : TouchingOn a.east b.east
  pub north : TouchingOn a.north b.north
  pub day : TouchingOn a.day b.day

pub record CoveringOn (r s : Range) : Type 0 where
  pub low : r.low ≤ s.low
  pub high : s.high ≤ r.high

pub record Covering (a b : Box) : Type 0 where
  pub east : CoveringOn a.east b.east
  pub north : CoveringOn a.north b.north
  pub day : CoveringOn a.day b.day

pub record LegalOn (limit : ℕ) (r : Range) : Type 0 where
  pub order : r.low ≤ r.high
  pub within : r.high ≤ limit

pub record Legal (b : Box) : Type 0 where
  pub east : LegalOn east_limit b.east
  pub north : LegalOn north_limit b.north
  pub day : LegalOn day_limit b.day

pub holding : (r : Range) (x : ℕ) → holds r x ≡ true → Holding r x
holding r x e = let h = orders r.low x x r.high e in record { from = h.0; to = h.1 }

pub holds_so : (r : Range) (x : ℕ) → Holding r x → holds r x ≡ true
holds_so r x h = ordered r.low x x r.high h.from h.to

-- a number that is not held lies past the high end or before the low end
pub lies_past : (r : Range) (x : ℕ) → holds r x ≡ false → r.low ≤ x → r.high < x
lies_past r x e p = ⊎_elim (λ h. h) (λ k. absurd (false≢true (sym e ∙ holds_so r x (omega arith)))) (below_or_not r.high x)

pub lies_before : (r : Range) (x : ℕ) → holds r x ≡ false → x ≤ r.high → x < r.low
lies_before r x e p = ⊎_elim (λ h. h) (λ k. absurd (false≢true (sym e ∙ holds_so r x (omega arith)))) (below_or_not x r.low)

pub touching_on : (r s : Range) → touches_on r s ≡ true → TouchingOn r s
touching_on r s e = let h = orders r.low s.high s.low r.high e in record { one = h.0; other = h.1 }

pub touches_on_so : (r s : Range) → TouchingOn r s → touches_on r s ≡ true
touches_on_so r s h = ordered r.low s.high s.low r.high h.one h.other

-- a test made on each axis, as facts on each and back
on_each : (f : Range → Range → Bool) (F : Range → Range → Type 0) → ((r s : Range) → f r s ≡ true → F r s) → (a b : Box) → f a.east b.east && f a.north b.north && f a.day b.day ≡ true → F a.east b.east × F a.north b.north × F a.day b.day
on_each f F g a b e =
    let h = three (f a.east b.east) (f a.north b.north) (f a.day b.day) e in
    (g a.east b.east h.0, g a.north b.north h.1, g a.day b.day h.2)

on_each_so : (f : Range → Range → Bool) (F : Range → Range → Type 0) → ((r s : Range) → F r s → f r s ≡ true) → (a b : Box) → F a.east b.east → F a.north b.north → F a.day b.day → f a.east b.east && f a.north b.north && f a.day b.day ≡ true
on_each_so f F g a b h k l =
    joint_three (f a.east b.east) (f a.north b.north) (f a.day b.day) (g a.east b.east h) (g a.north b.north k) (g a.day b.day l)

pub touching : (a b : Box) → touches a b ≡ true → Touching a b
unfolding touches
touching a b e = let h = on_each touches_on TouchingOn touching_on a b e in record { east = h.0; north = h.1; day = h.2 }

pub touches_so : (a b : Box) → Touching a b → touches a b ≡ true
unfolding touches
touches_so a b h = on_each_so touches_on TouchingOn touches_on_so a b h.east h.north h.day

pub covering_on : (r s : Range) → covers_on r s ≡ true → CoveringOn r s
covering_on r s e = let h = orders r.low s.low s.high r.high e in record { low = h.0; high = h.1 }

pub covers_on_so : (r s : Range) → CoveringOn r s → covers_on r s ≡ true
covers_on_so r s h = ordered r.low s.low s.high r.high h.low h.high

pub covering : (a b : Box) → covers a b ≡ true → Covering a b
unfolding covers
covering a b e = let h = on_each covers_on CoveringOn covering_on a b e in record { east = h.0; north = h.1; day = h.2 }

pub covers_so : (a b : Box) → Covering a b → covers a b ≡ true
unfolding covers
covers_so a b h = on_each_so covers_on CoveringOn covers_on_so a b h.east h.north h.day

pub legal_on_lem : (limit : ℕ) (r : Range) → legal_on limit r ≡ true → LegalOn limit r
legal_on_lem limit r e = let h = orders r.low r.high r.high limit e in record { order = h.0; within = h.1 }

pub legal_on_so : (limit : ℕ) (r : Range) → LegalOn limit r → legal_on limit r ≡ true
legal_on_so limit r h = ordered r.low r.high r.high limit h.order h.within

pub lawful : (b : Box) → legal b ≡ true → Legal b
unfolding legal
lawful b e =
    let h = three (legal_on east_limit b.east) (legal_on north_limit b.north) (legal_on day_limit b.day) e in
    record { east = legal_on_lem east_limit b.east h.0; north = legal_on_lem north_limit b.north h.1; day = legal_on_lem day_limit b.day h.2 }

pub legal_so : (b : Box) → Legal b → legal b ≡ true
unfolding legal
legal_so b h =
    joint_three (legal_on east_limit b.east) (legal_on north_limit b.north) (legal_on day_limit b.day)
    (legal_on_so east_limit b.east h.east) (legal_on_so north_limit b.north h.north) (legal_on_so day_limit b.day h.day)
