-- The ends of boxes with the high ones turned upside down: all ends of a covering box are then the least of their kind.
-- Nothing here has to be believed: it is how the code finds the box that `covering` says.
use Rattle.std.specs.Prelude.{ℕ, ◌-◌, ◌≤◌, min, max, ◌≡◌}
use Rattle.std.proofs.Math.Path.{ap}
use Rattle.std.proofs.Common.{◌∙◌, arith}
use Rattle.ground.specs.Boxes.{join}
use Rattle.ground.specs.declared.boxes.Box.{Box}
use Rattle.pages.specs.declared.summary.Ends.{Ends}

abbrev pub turned : ℕ → ℕ
turned high = 65_535 - high

abbrev pub ends_of : Box → Ends
ends_of b =
    record {
      east_low = b.east.low;
      east_high = turned b.east.high;
      north_low = b.north.low;
      north_high = turned b.north.high;
      day_low = b.day.low;
      day_high = turned b.day.high;
    }

abbrev pub least : Ends → Ends → Ends
least x y =
    record {
      east_low = min x.east_low y.east_low;
      east_high = min x.east_high y.east_high;
      north_low = min x.north_low y.north_low;
      north_high = min x.north_high y.north_high;
      day_low = min x.day_low y.day_low;
      day_high = min x.day_high y.day_high;
    }

abbrev pub boxed : Ends → Box
boxed x =
    record {
      east = record { low = x.east_low; high = turned x.east_high };
      north = record { low = x.north_low; high = turned x.north_high };
      day = record { low = x.day_low; high = turned x.day_high };
    }

-- the high ends fit a word
pub record Narrow (b : Box) : Type 0 where
  pub east : b.east.high ≤ 65_535
  pub north : b.north.high ≤ 65_535
  pub day : b.day.high ≤ 65_535

turned_twice : (h : ℕ) → h ≤ 65_535 → turned (turned h) ≡ h
turned_twice h p = omega arith

pub boxed_ends : (b : Box) → Narrow b → boxed (ends_of b) ≡ b
boxed_ends b h =
    let e = turned_twice b.east.high h.east in
    let n = turned_twice b.north.high h.north in
    let d = turned_twice b.day.high h.day in
    λ i. record { east = record { low = b.east.low; high = e i }; north = record { low = b.north.low; high = n i }; day = record { low = b.day.low; high = d i } }

turned_least : (h x : ℕ) → h ≤ 65_535 → turned (min (turned h) x) ≡ max h (turned x)
turned_least h x p = omega arith

pub boxed_least : (b : Box) (x : Ends) → Narrow b → boxed (least (ends_of b) x) ≡ join b (boxed x)
unfolding join
boxed_least b x h =
    let e = turned_least b.east.high x.east_high h.east in
    let n = turned_least b.north.high x.north_high h.north in
    let d = turned_least b.day.high x.day_high h.day in
    λ i. record {
      east = record { low = min b.east.low x.east_low; high = e i };
      north = record { low = min b.north.low x.north_low; high = n i };
      day = record { low = min b.day.low x.day_low; high = d i };
    }

-- a box by its ends, alone and before others
module _ (place : Box) (x : Ends) (h : (x ≡ ends_of place) × Narrow place) where
  pub boxed_alone : boxed x ≡ place
  boxed_alone = ap boxed h.0 ∙ boxed_ends place h.1

  pub boxed_more : (y z : Ends) → y ≡ least x z → boxed y ≡ join place (boxed z)
  boxed_more y z e = ap boxed (e ∙ ap (λ w. least w z) h.0) ∙ boxed_least place z h.1
