-- Why an exact index entry tells the best below it: for each question its box bounds that from above, its strongest record from below.
use Rattle.std.specs.Prelude.{ℕ, ◌+◌, max, ◌≤◌, ◌<◌, Bool, true, false, cond, ◌≡◌, refl, ltb, length}
use mathlib.Core.List.{List, [], ◌∷◌, ◌++◌}
use Rattle.std.proofs.Common.{◌∙◌, arith, ltb-true, ltb-false}
use Rattle.ground.specs.Boxes.{touches, covers, legal, join}
use Rattle.ground.specs.BoxLaws.{covers_self, covers_trans, covers_touched, covers_touches, touches_sym, join_covers_first, join_covers_second}
use Rattle.ground.specs.Tests.{fails}
use Rattle.ground.specs.declared.boxes.Box.{Box}
use Rattle.pages.specs.Summary.{gust_of, record_box, covering, later_if_greater, first_greatest}
use Rattle.pages.specs.declared.Entry.{Entry}
use Rattle.asking.specs.BoxMax.{greatest, score, box_max}

-- what holds of every entry of a list
abbrev pub All : (Entry → Type 0) → List Entry → Type 0
All P [] = Unit {0}
All P (e ∷ es) = P e × All P es

pub all_map : (P Q : Entry → Type 0) (es : List Entry) → ((e : Entry) → P e → Q e) → All P es → All Q es
all_map P Q [] f h = tt
all_map P Q (e ∷ es) f h = (f e h.0, all_map P Q es f h.1)

-- the greatest over two lists, and of equal numbers
pub greatest_append : (f : Entry → ℕ) (xs ys : List Entry) → greatest f (xs ++ ys) ≡ max (greatest f xs) (greatest f ys)
unfolding greatest
greatest_append f [] ys = omega arith
greatest_append f (x ∷ xs) ys = let h = greatest_append f xs ys in omega arith

-- a gust that touches, and one that does not
pub score_touches : (q b : Box) (v : ℕ) → touches q b ≡ true → score q b v ≡ v + 1
unfolding score
score_touches q b v h = rw h

pub score_none : (q b : Box) (v : ℕ) → touches q b ≡ false → score q b v ≡ 0
unfolding score
score_none q b v h = rw h

pub score_most : (q b : Box) (v : ℕ) → score q b v ≤ v + 1
unfolding score
score_most q b v = by_test (touches q b)
  where
    by_test : (t : Bool) → cond t (v + 1) 0 ≤ v + 1
    by_test true = omega arith
    by_test false = omega arith

-- the box-max is Nothing exactly if no record touches
pub none_touches : (q : Box) (es : List Entry) → box_max q es ≡ 0 → All (λ e. touches q e.place ≡ false) es
unfolding greatest
none_touches q [] h = tt
none_touches q (e ∷ es) h = (fails (touches q e.place) (λ t. omega (arith, h, score_touches q e.place e.gust t)), none_touches q es (omega arith))

pub nothing_so : (q : Box) (es : List Entry) → All (λ e. touches q e.place ≡ false) es → box_max q es ≡ 0
unfolding greatest
nothing_so q [] h = refl
nothing_so q (e ∷ es) h = omega (arith, score_none q e.place e.gust h.0, nothing_so q es h.1)

-- a greater gust over a box that covers scores no less
pub score_grows : (q a b : Box) (v w : ℕ) → covers b a ≡ true → v ≤ w → score q a v ≤ score q b w
score_grows q a b v w c l = by_test (touches q a) refl
  where
    by_test : (t : Bool) → touches q a ≡ t → score q a v ≤ score q b w
    by_test true e = omega (arith, score_touches q a v e, score_touches q b w (covers_touched b a q c e))
    by_test false e = omega (arith, score_none q a v e)

-- the best below, told by a box, the strongest record's box and the greatest gust
pub record Tells (q place strongest : Box) (gust best : ℕ) : Type 0 where
  pub upper : best ≤ score q place gust
  pub lower : score q strongest gust ≤ best
  pub inner : covers place strongest ≡ true
  pub lawful : legal strongest ≡ true

-- a record tells of itself
pub record_tells : (q b : Box) (v : ℕ) → legal b ≡ true → Tells q b b v (score q b v)
record_tells q b v h = record { upper = omega arith; lower = omega arith; inner = covers_self b; lawful = h }

-- two tell together: the box that covers both, and the record of the greater gust
module _ (q a b sa sb : Box) (v w m n : ℕ) (h : Tells q a sa v m) (k : Tells q b sb w n) where
  later : v < w → Tells q (join a b) sb w (max m n)
  later l =
      record {
        upper = omega (arith, h.upper, k.upper, score_grows q a (join a b) v w (join_covers_first a b) (omega arith), score_grows q b (join a b) w w (join_covers_second a b) (omega arith));
        lower = omega (arith, k.lower);
        inner = covers_trans (join a b) b sb (join_covers_second a b) k.inner;
        lawful = k.lawful;
      }

  earlier : w ≤ v → Tells q (join a b) sa v (max m n)
  earlier l =
      record {
        upper = omega (arith, h.upper, k.upper, score_grows q a (join a b) v v (join_covers_first a b) (omega arith), score_grows q b (join a b) w v (join_covers_second a b) l);
        lower = omega (arith, h.lower);
        inner = covers_trans (join a b) a sa (join_covers_first a b) h.inner;
        lawful = h.lawful;
      }

-- so the summary of entries tells of what each of them tells
module _ (q : Box) (level : ℕ) (best : Entry → ℕ) where
  abbrev EntryTells : Entry → Type 0
  EntryTells e = Tells q e.place (record_box level e) e.gust (best e)

  abbrev Told : Box → Entry → ℕ → Type 0
  Told place e m = Tells q place (record_box level e) e.gust m

  one_more : (e f : Entry) (place : Box) (m : ℕ) → EntryTells e → Told place f m → Told (join e.place place) (later_if_greater gust_of e f) (max (best e) m)
  one_more e f place m h k = by_test (ltb e.gust f.gust) refl
    where
      by_test : (t : Bool) → ltb e.gust f.gust ≡ t → Told (join e.place place) (cond t f e) (max (best e) m)
      by_test true l = later q e.place place (record_box level e) (record_box level f) e.gust f.gust (best e) m h k (ltb-true e.gust f.gust l)
      by_test false l = earlier q e.place place (record_box level e) (record_box level f) e.gust f.gust (best e) m h k (ltb-false e.gust f.gust l)

  pub entries_tell : (es : List Entry) → 0 < length es → All EntryTells es → Told (covering es) (first_greatest gust_of es) (greatest best es)
  unfolding covering first_greatest greatest
  entries_tell [] n h = absurd (omega arith)
  entries_tell (e ∷ []) n h = let k = h.0 in record { upper = omega (arith, k.upper); lower = omega (arith, k.lower); inner = k.inner; lawful = k.lawful }
  entries_tell (e ∷ f ∷ es) n h = one_more e (first_greatest gust_of (f ∷ es)) (covering (f ∷ es)) (greatest best (f ∷ es)) h.0 (entries_tell (f ∷ es) (omega arith) h.1)

-- what the search may conclude
module _ (q place strongest : Box) (gust best : ℕ) (h : Tells q place strongest gust best) where
  pub tells_none : touches q place ≡ false → best ≡ 0
  tells_none e = omega (arith, h.upper, score_none q place gust e)

  pub tells_most : best ≤ gust + 1
  tells_most = omega (arith, h.upper, score_most q place gust)

  pub tells_touched : touches q strongest ≡ true → best ≡ gust + 1
  tells_touched e = omega (arith, h.lower, score_touches q strongest gust e, tells_most)

  pub tells_covered : covers q place ≡ true → best ≡ gust + 1
  tells_covered e = tells_touched (touches_sym q strongest ∙ covers_touches q strongest (covers_trans q place strongest e h.inner) h.lawful)
