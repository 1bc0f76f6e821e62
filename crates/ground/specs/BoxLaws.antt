-- Laws of boxes: touching, covering, joining and size. The storeys above cite these and open no definition of a box.
use Rattle.std.specs.Prelude.{true, ◌≡◌, ℕ, ◌+◌, ◌*◌, ◌^◌, ◌≤◌, ◌<◌}
use Rattle.std.proofs.Common.{mul-le-mul, mul-pos, arith}
use Rattle.ground.specs.Boxes.{east_limit, north_limit, day_limit, touches, covers, size, length_on, join, legal}
use Rattle.ground.specs.Facts.{Touching, Covering, Legal, touching, touches_so, covering, covers_so, lawful, legal_so}
use Rattle.ground.specs.Tests.{same_test}
use Rattle.ground.specs.declared.boxes.Range.{Range}
use Rattle.ground.specs.declared.boxes.Box.{Box}

-- touching is symmetric, and reflexive on legal boxes
turned : (a b : Box) → Touching a b → Touching b a
turned a b h = omega arith

pub touches_sym : (a b : Box) → touches a b ≡ touches b a
touches_sym a b =
    same_test (touches a b) (touches b a)
    (λ e. touches_so b a (turned a b (touching a b e)))
    (λ e. touches_so a b (turned b a (touching b a e)))

touches_itself : (b : Box) → Legal b → Touching b b
touches_itself b h = omega arith

pub touches_self : (b : Box) → legal b ≡ true → touches b b ≡ true
touches_self b e = touches_so b b (touches_itself b (lawful b e))

-- covering is a partial order
covers_itself : (b : Box) → Covering b b
covers_itself b = omega arith

pub covers_self : (b : Box) → covers b b ≡ true
covers_self b = covers_so b b (covers_itself b)

through : (a b c : Box) → Covering a b → Covering b c → Covering a c
through a b c h k = omega arith

pub covers_trans : (a b c : Box) → covers a b ≡ true → covers b c ≡ true → covers a c ≡ true
covers_trans a b c p q = covers_so a c (through a b c (covering a b p) (covering b c q))

record SameEnds (a b : Box) : Type 0 where
  e0 : a.east.low ≡ b.east.low
  e1 : a.east.high ≡ b.east.high
  n0 : a.north.low ≡ b.north.low
  n1 : a.north.high ≡ b.north.high
  d0 : a.day.low ≡ b.day.low
  d1 : a.day.high ≡ b.day.high

same_ends : (a b : Box) → Covering a b → Covering b a → SameEnds a b
same_ends a b h k = omega arith

pub covers_antisym : (a b : Box) → covers a b ≡ true → covers b a ≡ true → a ≡ b
covers_antisym a b p q =
    let h = same_ends a b (covering a b p) (covering b a q) in
    λ i. record {
      east = record { low = h.e0 i; high = h.e1 i };
      north = record { low = h.n0 i; high = h.n1 i };
      day = record { low = h.d0 i; high = h.d1 i };
    }

-- what covers a box is touched by all that touches that box; and it touches the box itself, if that is legal
reaches : (a b q : Box) → Covering a b → Touching q b → Touching q a
reaches a b q h k = omega arith

pub covers_touched : (a b q : Box) → covers a b ≡ true → touches q b ≡ true → touches q a ≡ true
covers_touched a b q p t = touches_so q a (reaches a b q (covering a b p) (touching q b t))

pub covers_touches : (a b : Box) → covers a b ≡ true → legal b ≡ true → touches b a ≡ true
covers_touches a b p e = covers_touched a b b p (touches_self b e)

-- the joined box covers both, is the smallest that does, and is legal if both are
join_first : (a b : Box) → Covering (join a b) a
unfolding join
join_first a b = omega arith

join_second : (a b : Box) → Covering (join a b) b
unfolding join
join_second a b = omega arith

pub join_covers_first : (a b : Box) → covers (join a b) a ≡ true
join_covers_first a b = covers_so (join a b) a (join_first a b)

pub join_covers_second : (a b : Box) → covers (join a b) b ≡ true
join_covers_second a b = covers_so (join a b) b (join_second a b)

within : (a b c : Box) → Covering c a → Covering c b → Covering c (join a b)
unfolding join
within a b c h k = omega arith

pub join_smallest : (a b c : Box) → covers c a ≡ true → covers c b ≡ true → covers c (join a b) ≡ true
join_smallest a b c p q = covers_so c (join a b) (within a b c (covering c a p) (covering c b q))

lawful_join : (a b : Box) → Legal a → Legal b → Legal (join a b)
unfolding join
lawful_join a b h k = omega arith

pub join_legal : (a b : Box) → legal a ≡ true → legal b ≡ true → legal (join a b) ≡ true
join_legal a b p q = legal_so (join a b) (lawful_join a b (lawful a p) (lawful b q))

-- size grows with covering; a legal box has at least one cell, and at most those of all the ground on all days
pub size_grows : (a b : Box) → covers a b ≡ true → size b ≤ size a
unfolding size
size_grows a b p =
    let h = covering a b p in
    mul-le-mul (mul-le-mul (omega arith) (omega arith)) (omega arith)

pub size_least : (b : Box) → legal b ≡ true → 0 < size b
unfolding size
size_least b e = let h = lawful b e in mul-pos (mul-pos (omega arith) (omega arith)) (omega arith)

pub size_most : (b : Box) → legal b ≡ true → size b ≤ (east_limit + 1) * (north_limit + 1) * (day_limit + 1)
unfolding size
size_most b e = let h = lawful b e in mul-le-mul {n₂ = (east_limit + 1) * (north_limit + 1)} {m₂ = day_limit + 1} (mul-le-mul {n₂ = east_limit + 1} {m₂ = north_limit + 1} (omega arith) (omega arith)) (omega arith)

-- the size of any box of 16-bit numbers is at most 2 ^ 48
pub products : (x y z : ℕ) → x ≤ 2 ^ 16 → y ≤ 2 ^ 16 → z ≤ 2 ^ 16 → (x * y ≤ 2 ^ 32) × (x * y * z ≤ 2 ^ 48)
products x y z p q r =
    let h = mul-le-mul {n₂ = 2 ^ 16} {m₂ = 2 ^ 16} p q in
    (h, mul-le-mul {n₂ = 2 ^ 32} {m₂ = 2 ^ 16} h r)

pub size_fits : (b : Box) → b.east.high < 2 ^ 16 → b.north.high < 2 ^ 16 → b.day.high < 2 ^ 16 → size b ≤ 2 ^ 48
unfolding size
size_fits b p q r = (products (length_on b.east) (length_on b.north) (length_on b.day) (omega arith) (omega arith) (omega arith)).1
