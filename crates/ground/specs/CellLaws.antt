-- What touching and covering mean, in cells: two legal boxes touch exactly if they have a cell in common, and a box covers a legal one exactly if it has all of its cells.
use Rattle.std.specs.Prelude.{true, ◌↔◌, ◌≡◌, ℕ, max}
use Rattle.std.proofs.Common.{arith}
use Rattle.ground.specs.Boxes.{Cell, holds, has, touches, covers, legal}
use Rattle.ground.specs.Facts.{Holding, holding, holds_so, Touching, touching, touches_so, Covering, covering, covers_so, lawful}
use Rattle.ground.specs.Tests.{three, joint_three}
use Rattle.ground.specs.declared.boxes.Box.{Box}

record Having (b : Box) (x : Cell) : Type 0 where
  pub east : Holding b.east x.east
  pub north : Holding b.north x.north
  pub day : Holding b.day x.day

having : (b : Box) (x : Cell) → has b x ≡ true → Having b x
unfolding has
having b x e =
    let h = three (holds b.east x.east) (holds b.north x.north) (holds b.day x.day) e in
    record { east = holding b.east x.east h.0; north = holding b.north x.north h.1; day = holding b.day x.day h.2 }

has_so : (b : Box) (x : Cell) → Having b x → has b x ≡ true
unfolding has
has_so b x h =
    joint_three (holds b.east x.east) (holds b.north x.north) (holds b.day x.day)
    (holds_so b.east x.east h.east) (holds_so b.north x.north h.north) (holds_so b.day x.day h.day)

module _ (a b : Box) where
  -- the first cell of both: past both low ends
  shared : Cell
  shared = record { east = max a.east.low b.east.low; north = max a.north.low b.north.low; day = max a.day.low b.day.low }

  pub touch_cell : legal a ≡ true → legal b ≡ true → touches a b ≡ true ↔ ((x : Cell) × (has a x ≡ true) × (has b x ≡ true))
  unfolding shared
  touch_cell la lb =
      let f = lawful a la in
      let g = lawful b lb in (
        λ e. let t = touching a b e in (shared, has_so a shared (omega arith), has_so b shared (omega arith)),
        λ c. let h = having a c.0 c.1 in let k = having b c.0 c.2 in touches_so a b (omega arith),
      )

  -- the cells at both corners of b are enough
  low : Cell
  low = record { east = b.east.low; north = b.north.low; day = b.day.low }

  high : Cell
  high = record { east = b.east.high; north = b.north.high; day = b.day.high }

  pub cover_cells : legal b ≡ true → covers a b ≡ true ↔ ((x : Cell) → has b x ≡ true → has a x ≡ true)
  unfolding low high
  cover_cells lb =
      let g = lawful b lb in (
        λ e x h. let c = covering a b e in let k = having b x h in has_so a x (omega arith),
        λ all. let h = having a low (all low (has_so b low (omega arith))) in let k = having a high (all high (has_so b high (omega arith))) in covers_so a b (omega arith),
      )
