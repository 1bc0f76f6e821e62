-- Section 6 of Zhang and Tsotras, figure 15, in whole days and gusts: three reports, the segments that they leave, and the question that crosses two of them.
use Rattle.std.specs.Prelude.{ℕ, List, [], ◌∷◌, ◌≡◌, refl}
use Rattle.ground.specs.declared.boxes.Range.{Range}
use Rattle.strip.specs.Strips.{segment, ends_on, in_front, parting, raised, greatest_on}

abbrev to : ℕ → ℕ → Range
to low high = record { low = low; high = high }

-- gust 2 on days 5 to 9, 4 on 10 to 19, 3 on 35 to 44
abbrev three_reports : ℕ → ℕ
three_reports = raised (to 35 44) 4 (raised (to 10 19) 5 (raised (to 5 9) 3 (λ d. 0)))

abbrev six_segments : List ℕ
six_segments = segment 4 0 ∷ segment 9 3 ∷ segment 19 5 ∷ segment 34 0 ∷ segment 44 4 ∷ segment 59 0 ∷ []

pub figure_15 : parting three_reports 0 60 ≡ six_segments
unfolding parting ends_on in_front raised
figure_15 = refl

pub figure_15_asked : greatest_on three_reports 8 5 ≡ 5
unfolding greatest_on raised
figure_15_asked = refl

-- a weaker report over stronger days changes nothing there, and one that reaches its neighbour's gust is joined with it
pub weaker : raised (to 12 15) 2 three_reports 13 ≡ 5
unfolding raised
weaker = refl

pub joined : parting (raised (to 20 34) 5 three_reports) 0 60 ≡ segment 4 0 ∷ segment 9 3 ∷ segment 34 5 ∷ segment 44 4 ∷ segment 59 0 ∷ []
unfolding parting ends_on in_front raised
joined = refl
