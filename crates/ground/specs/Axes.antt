-- What holds of a box on each axis holds of the box, and the other way round: so that a law is stated once, over the axis.
use Rattle.std.specs.Prelude.{true, ◌≡◌, refl, ℕ}
use Rattle.ground.specs.Boxes.{Cell, holds, has, covers_on, east_limit, north_limit, day_limit}
use Rattle.ground.specs.Cutting.{Axis, Axis.east, Axis.north, Axis.day, on, at, covers_beside}
use Rattle.ground.specs.Facts.{Holding, holding, TouchingOn, Touching, CoveringOn, Covering, covering_on, LegalOn, Legal}
use Rattle.ground.specs.Tests.{both, three}
use Rattle.ground.specs.declared.boxes.Range.{Range}
use Rattle.ground.specs.declared.boxes.Box.{Box}

abbrev pub limit_on : Axis → ℕ
limit_on east = east_limit
limit_on north = north_limit
limit_on day = day_limit

abbrev pub cell_on : Axis → Cell → ℕ
cell_on east x = x.east
cell_on north x = x.north
cell_on day x = x.day

-- a statement on the two axes beside this one
abbrev pub Beside : (Axis → Type 0) → Axis → Type 0
Beside Q east = Q north × Q day
Beside Q north = Q east × Q day
Beside Q day = Q east × Q north

pub beside : (Q : Axis → Type 0) (x : Axis) → ((y : Axis) → Q y) → Beside Q x
beside Q east h = (h north, h day)
beside Q north h = (h east, h day)
beside Q day h = (h east, h north)

-- another range on one axis: what holds of it there, and of the box beside it, holds on every axis
pub placed : (Q : Axis → Range → Type 0) (x : Axis) (r : Range) (b : Box) → Q x r → Beside (λ y. Q y (on y b)) x → (y : Axis) → Q y (on y (at x r b))
placed Q east r b h k east = h
placed Q east r b h k north = k.0
placed Q east r b h k day = k.1
placed Q north r b h k east = k.0
placed Q north r b h k north = h
placed Q north r b h k day = k.1
placed Q day r b h k east = k.0
placed Q day r b h k north = k.1
placed Q day r b h k day = h

pub on_at : (x : Axis) (r : Range) (b : Box) → on x (at x r b) ≡ r
on_at east r b = refl
on_at north r b = refl
on_at day r b = refl

pub touching_each : (a b : Box) → ((y : Axis) → TouchingOn (on y a) (on y b)) → Touching a b
touching_each a b h = record { east = h east; north = h north; day = h day }

pub touching_at : (a b : Box) → Touching a b → (y : Axis) → TouchingOn (on y a) (on y b)
touching_at a b h east = h.east
touching_at a b h north = h.north
touching_at a b h day = h.day

pub covering_each : (a b : Box) → ((y : Axis) → CoveringOn (on y a) (on y b)) → Covering a b
covering_each a b h = record { east = h east; north = h north; day = h day }

pub legal_each : (b : Box) → ((y : Axis) → LegalOn (limit_on y) (on y b)) → Legal b
legal_each b h = record { east = h east; north = h north; day = h day }

pub legal_at : (b : Box) → Legal b → (y : Axis) → LegalOn (limit_on y) (on y b)
legal_at b h east = h.east
legal_at b h north = h.north
legal_at b h day = h.day

pub has_at : (b : Box) (p : Cell) → has b p ≡ true → (y : Axis) → Holding (on y b) (cell_on y p)
unfolding has
has_at b p e y =
    let h = three (holds b.east p.east) (holds b.north p.north) (holds b.day p.day) e in
    at_axis y (holding b.east p.east h.0) (holding b.north p.north h.1) (holding b.day p.day h.2)
  where
    at_axis : (y : Axis) → Holding b.east p.east → Holding b.north p.north → Holding b.day p.day → Holding (on y b) (cell_on y p)
    at_axis east u v w = u
    at_axis north u v w = v
    at_axis day u v w = w

pub covering_beside : (x : Axis) (c b : Box) → covers_beside x c b ≡ true → Beside (λ y. CoveringOn (on y c) (on y b)) x
covering_beside east c b e =
    let h = both (covers_on c.north b.north) (covers_on c.day b.day) e in
    (covering_on c.north b.north h.0, covering_on c.day b.day h.1)
covering_beside north c b e =
    let h = both (covers_on c.east b.east) (covers_on c.day b.day) e in
    (covering_on c.east b.east h.0, covering_on c.day b.day h.1)
covering_beside day c b e =
    let h = both (covers_on c.east b.east) (covers_on c.north b.north) e in
    (covering_on c.east b.east h.0, covering_on c.north b.north h.1)
