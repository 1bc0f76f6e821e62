-- RULES.md, section 1: boxes and gusts.
use Rattle.std.specs.Prelude.{ℕ, ◌+◌, ◌*◌, ◌-◌, min, max, Bool, ◌&&◌, leb}
use Rattle.ground.specs.declared.boxes.Range.{Range}
use Rattle.ground.specs.declared.boxes.Box.{Box}
use Rattle.ground.specs.declared.gusts.Gust.{Gust}

-- Rules 1.12, 1.13, 1.21: east and north are 0 to 4,095, day 0 to 58,438, the number of 2039-12-31 (`limit_is_last`); a gust is 0 to 1,200 tenths.
abbrev pub east_limit : ℕ
east_limit = 4_095

abbrev pub north_limit : ℕ
north_limit = 4_095

abbrev pub day_limit : ℕ
day_limit = 58_438

abbrev pub gust_limit : ℕ
gust_limit = 1_200

-- Rule 1.11: a range holds the numbers from its low end to its high end, both inside.
abbrev pub holds : Range → ℕ → Bool
holds r x = leb r.low x && leb x r.high

-- A cell is a kilometre square on one day. Rule 1.11: a box has a cell if its range on each of the three axes holds the cell's number.
pub record Cell : Type 0 where
  pub east : ℕ
  pub north : ℕ
  pub day : ℕ

unfoldable pub has : Box → Cell → Bool
has b x = holds b.east x.east && holds b.north x.north && holds b.day x.day

-- Rule 1.14: two boxes touch if on each axis each low end is at most the other's high end.
abbrev pub touches_on : Range → Range → Bool
touches_on r s = leb r.low s.high && leb s.low r.high

unfoldable pub touches : Box → Box → Bool
touches a b = touches_on a.east b.east && touches_on a.north b.north && touches_on a.day b.day

-- Rule 1.15: box A covers B if on each axis A.low ≤ B.low and B.high ≤ A.high.
abbrev pub covers_on : Range → Range → Bool
covers_on r s = leb r.low s.low && leb s.high r.high

unfoldable pub covers : Box → Box → Bool
covers a b = covers_on a.east b.east && covers_on a.north b.north && covers_on a.day b.day

-- Rule 1.16: size is the number of cells, the product of the three lengths.
abbrev pub length_on : Range → ℕ
length_on r = r.high + 1 - r.low

unfoldable pub size : Box → ℕ
size b = length_on b.east * length_on b.north * length_on b.day

-- Rules 1.12, 1.13, 7.2: refusal 2 is given for a low end above its high end, or a high end above its limit. A box is legal if it is not given.
abbrev pub legal_on : ℕ → Range → Bool
legal_on limit r = leb r.low r.high && leb r.high limit

unfoldable pub legal : Box → Bool
legal b = legal_on east_limit b.east && legal_on north_limit b.north && legal_on day_limit b.day

-- Rules 1.21, 7.3: refusal 3 is given for a gust above 1,200. A gust passes if it is not given.
abbrev pub gust_passes : Gust → Bool
gust_passes g = leb g.tenths gust_limit

-- Rule 1.17: the smallest box that covers two, on each axis from the lesser low end to the greater high end.
abbrev pub join_on : Range → Range → Range
join_on r s = record { low = min r.low s.low; high = max r.high s.high }

unfoldable pub join : Box → Box → Box
join a b = record { east = join_on a.east b.east; north = join_on a.north b.north; day = join_on a.day b.day }
