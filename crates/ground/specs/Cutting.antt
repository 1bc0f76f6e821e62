-- RULES.md, section 4, step 3: what one candidate c does to the box b that is being recorded. It covers b, cuts it, or leaves it as it is.
use Rattle.std.specs.Prelude.{ℕ, ◌+◌, ◌-◌, Bool, ◌&&◌, cond}
use Rattle.std.specs.Bool.{xor}
use Rattle.ground.specs.Boxes.{holds, touches_on, touches, covers_on, covers}
use Rattle.ground.specs.declared.boxes.Range.{Range}
use Rattle.ground.specs.declared.boxes.Box.{Box}
use Rattle.ground.specs.declared.boxes.Cut.{Cut}
use Rattle.ground.specs.declared.boxes.Cut.TheVariants.{Covered, Left, Unchanged}

-- The three axes, a box's range on one, and the box with another range there.
pub data Axis : Type 0 where
  east north day : Axis

abbrev pub on : Axis → Box → Range
on east b = b.east
on north b = b.north
on day b = b.day

abbrev pub at : Axis → Range → Box → Box
at east r b = record { east = r; north = b.north; day = b.day }
at north r b = record { east = b.east; north = r; day = b.day }
at day r b = record { east = b.east; north = b.north; day = r }

-- c covers b on the two axes other than this one
abbrev pub covers_beside : Axis → Box → Box → Bool
covers_beside east c b = covers_on c.north b.north && covers_on c.day b.day
covers_beside north c b = covers_on c.east b.east && covers_on c.day b.day
covers_beside day c b = covers_on c.east b.east && covers_on c.north b.north

-- Rule 4.35: c covers exactly one end of b
unfoldable pub covers_one_end : Range → Range → Bool
covers_one_end c b = xor (holds c b.low) (holds c b.high)

-- Rule 4.35: c cuts b on an axis if it covers b on the two others, touches it, and covers exactly one end of it there
unfoldable pub cuts_on : Axis → Box → Box → Bool
cuts_on x c b = covers_beside x c b && touches c b && covers_one_end (on x c) (on x b)

-- Rule 4.36: what is left of b, and what is cut away: past c if c covers b's low end, before c if it covers the high end
unfoldable pub left_on : Range → Range → Range
left_on c b = cond (holds c b.low) (record { low = c.high + 1; high = b.high }) (record { low = b.low; high = c.low - 1 })

unfoldable pub away_on : Range → Range → Range
away_on c b = cond (holds c b.low) (record { low = b.low; high = c.high }) (record { low = c.low; high = b.high })

-- all of b is left where c does not touch it, or covers both ends or none
unfoldable pub rest_on : Range → Range → Range
rest_on c b = cond (touches_on c b && covers_one_end c b) (left_on c b) b

unfoldable pub left : Axis → Box → Box → Box
left x c b = at x (left_on (on x c) (on x b)) b

unfoldable pub away : Axis → Box → Box → Box
away x c b = at x (away_on (on x c) (on x b)) b

-- Rules 4.34, 4.35, 4.36: covered, or cut on an axis, or unchanged.
unfoldable pub cut : Box → Box → Cut
cut c b =
    cond (covers c b) Covered
    (cond (cuts_on east c b) (Left (left east c b))
    (cond (cuts_on north c b) (Left (left north c b))
    (cond (cuts_on day c b) (Left (left day c b))
    Unchanged)))

-- What the rule removes from b where it leaves something.
unfoldable pub removed : Box → Box → Box
removed c b = cond (cuts_on east c b) (away east c b) (cond (cuts_on north c b) (away north c b) (away day c b))
