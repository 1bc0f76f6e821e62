-- A strip fed with reports, one after another: what it means and answers depends on which reports they are, not on their order.
use Prim.Native.Nat.{ℕ, zero, suc, ◌+◌, ◌-◌, ◌≤◌, ◌<◌, max}
use Rattle.std.specs.Prelude.{Bool, ◌⊎◌, ◌↔◌, ◌≡◌}
use Rattle.std.proofs.Math.Bool.{true, false, cond, false≢true}
use mathlib.Core.List.{List, [], ◌∷◌}
use Rattle.std.proofs.Math.Logic.{◌⊎◌.inl, ◌⊎◌.inr}
use Rattle.std.proofs.Math.Path.{refl, ap₂}
use Rattle.std.proofs.Common.{sym, ap, ◌∙◌}
use native.Mathlib.Omega.{arith}
use Rattle.ground.specs.Boxes.{day_limit, holds, touches_on}
use Rattle.ground.specs.Facts.{LegalOn, Holding, holding, holds_so, touching_on, touches_on_so, legal_on_lem}
use Rattle.ground.specs.Tests.{fails, below_or_not}
use Rattle.ground.specs.declared.boxes.Range.{Range}
use Rattle.strip.specs.Strips.{greatest_on, raised}
use Rattle.strip.specs.StripCalls.{Lent, segments, meaning, is_strip, recorded, greatest_in}
use Rattle.strip.specs.StripLaws.{equal_meaning, raised_in, raised_out, kept, kept_strip, kept_means}

-- The days and the gust of a record.
pub record Report : Type 0 where
  pub days : Range
  pub gust : ℕ

unfoldable pub fed : List Report → Lent → Lent
fed [] s = s
fed (r ∷ rs) s = fed rs (recorded s r.days r.gust).strip

-- None of them is refused.
abbrev pub Taken : List Report → Lent → Type 0
Taken [] s = Unit {0}
Taken (r ∷ rs) s = ((recorded s r.days r.gust).refusal ≡ 0) × Taken rs (recorded s r.days r.gust).strip

-- A report is among others.
abbrev pub Among : Report → List Report → Type 0
Among r [] = ⊥
Among r (x ∷ xs) = (r ≡ x) ⊎ Among r xs

abbrev pub SameReports : List Report → List Report → Type 0
SameReports xs ys = ((r : Report) → Among r xs → Among r ys) × ((r : Report) → Among r ys → Among r xs)

-- the greatest that f gives a report
unfoldable pub most : (Report → ℕ) → List Report → ℕ
most f [] = 0
most f (r ∷ rs) = max (f r) (most f rs)

most_has : (f : Report → ℕ) (r : Report) (rs : List Report) → Among r rs → f r ≤ most f rs
unfolding most
most_has f r [] h = elim h [ ]
most_has f r (x ∷ rs) (inl e) = omega (arith, ap f e)
most_has f r (x ∷ rs) (inr h) = let k = most_has f r rs h in omega arith

most_within : (f : Report → ℕ) (xs ys : List Report) → ((r : Report) → Among r xs → Among r ys) → most f xs ≤ most f ys
unfolding most
most_within f [] ys h = omega arith
most_within f (x ∷ xs) ys h = omega (arith, most_has f x ys (h x (inl refl)), most_within f xs ys (λ r k. h r (inr k)))

pub most_same : (f : Report → ℕ) (xs ys : List Report) → SameReports xs ys → most f xs ≡ most f ys
most_same f xs ys h = omega (arith, most_within f xs ys h.0, most_within f ys xs h.1)

-- what a report gives a day, and what it gives a range of days
unfoldable pub gives_day : ℕ → Report → ℕ
gives_day d r = cond (holds r.days d) (r.gust + 1) 0

unfoldable pub gives_range : Range → Report → ℕ
gives_range q r = cond (touches_on q r.days) (r.gust + 1) 0

raised_max : (days : Range) (gust : ℕ) (f : ℕ → ℕ) (d : ℕ) → raised days (gust + 1) f d ≡ max (f d) (gives_day d (record { days = days; gust = gust }))
unfolding gives_day
raised_max days gust f d = by_test (holds days d) refl
  where
    by_test : (t : Bool) → holds days d ≡ t → raised days (gust + 1) f d ≡ max (f d) (cond (holds days d) (gust + 1) 0)
    by_test true e = rw e (raised_in days (gust + 1) f d e)
    by_test false e = rw e (raised_out days (gust + 1) f d e ∙ max_zero (f d))
      where
        max_zero : (n : ℕ) → n ≡ max n 0
        max_zero n = omega arith

-- Fed without refusal, it is a strip that gives each day the greatest of what it had and what the reports give it.
pub fed_strip : (rs : List Report) (s : Lent) → is_strip s ≡ true → Taken rs s → is_strip (fed rs s) ≡ true
unfolding fed
fed_strip [] s e h = e
fed_strip (r ∷ rs) s e h = fed_strip rs (recorded s r.days r.gust).strip (kept_strip s r.days r.gust (kept s r.days r.gust h.0)) h.1

pub fed_means : (rs : List Report) (s : Lent) → is_strip s ≡ true → Taken rs s → (d : ℕ) → d ≤ day_limit → meaning (fed rs s) d ≡ max (meaning s d) (most (gives_day d) rs)
unfolding fed most
fed_means [] s e h d p = max_zero (meaning s d)
  where
    max_zero : (n : ℕ) → n ≡ max n 0
    max_zero n = omega arith
fed_means (r ∷ rs) s e h d p =
    let k = kept s r.days r.gust h.0 in
    let here = kept_means s r.days r.gust k d p ∙ raised_max r.days r.gust (meaning s) d in
    let rest = fed_means rs (recorded s r.days r.gust).strip (kept_strip s r.days r.gust k) h.1 d p in
    omega arith

-- The order of feeding does not matter, nor how often a report is fed.
pub any_order : (xs ys : List Report) (s : Lent) → is_strip s ≡ true → SameReports xs ys → Taken xs s → Taken ys s → segments (fed xs s) ≡ segments (fed ys s)
any_order xs ys s e m h k =
    equal_meaning (fed xs s) (fed ys s) (fed_strip xs s e h) (fed_strip ys s e k)
    (λ d p. fed_means xs s e h d p ∙ ap (max (meaning s d)) (most_same (gives_day d) xs ys m) ∙ sym (fed_means ys s e k d p))

-- the greatest of a range of days
greatest_same : (f g : ℕ → ℕ) (d n : ℕ) → ((e : ℕ) → d ≤ e → e < d + n → f e ≡ g e) → greatest_on f d n ≡ greatest_on g d n
unfolding greatest_on
greatest_same f g d zero h = refl
greatest_same f g d (suc n) h = ap₂ max (h d (omega arith) (omega arith)) (greatest_same f g (suc d) n (λ e p q. h e (omega arith) (omega arith)))

greatest_has : (f : ℕ → ℕ) (d n e : ℕ) → d ≤ e → e < d + n → f e ≤ greatest_on f d n
unfolding greatest_on
greatest_has f d zero e p q = omega arith
greatest_has f d (suc n) e p q = by_day (below_or_not d e) (greatest_has f (suc d) n e)
  where
    by_day : (d < e) ⊎ (e ≤ d) → (suc d ≤ e → e < suc d + n → f e ≤ greatest_on f (suc d) n) → f e ≤ max (f d) (greatest_on f (suc d) n)
    by_day (inl h) i = let k = i h (omega arith) in omega arith
    by_day (inr h) i = let z : e ≡ d = omega arith in omega (arith, ap f z)

greatest_below : (f : ℕ → ℕ) (d n x : ℕ) → ((e : ℕ) → d ≤ e → e < d + n → f e ≤ x) → greatest_on f d n ≤ x
unfolding greatest_on
greatest_below f d zero x h = omega arith
greatest_below f d (suc n) x h = omega (arith, h d (omega arith) (omega arith), greatest_below f (suc d) n x (λ e p q. h e (omega arith) (omega arith)))

greatest_max : (f g : ℕ → ℕ) (d n : ℕ) → greatest_on (λ e. max (f e) (g e)) d n ≡ max (greatest_on f d n) (greatest_on g d n)
unfolding greatest_on
greatest_max f g d zero = refl
greatest_max f g d (suc n) = let h = greatest_max f g (suc d) n in omega arith

greatest_nothing : (d n : ℕ) → greatest_on (λ e. 0) d n ≡ 0
unfolding greatest_on
greatest_nothing d zero = refl
greatest_nothing d (suc n) = let h = greatest_nothing (suc d) n in omega arith

-- A range of days has nothing exactly if no day of it has a gust.
pub nothing_exactly : (s : Lent) (q : Range) → (greatest_in s q ≡ 0) ↔ ((d : ℕ) → holds q d ≡ true → meaning s d ≡ 0)
unfolding greatest_in
nothing_exactly s q = (
  (λ e d h. let k = holding q d h in omega (arith, greatest_has (meaning s) q.low (suc q.high - q.low) d k.from (omega (arith, k.from, k.to)))),
  λ h. omega (arith, greatest_below (meaning s) q.low (suc q.high - q.low) 0 (λ d u v. omega (arith, h d (holds_so q d (record { from = u; to = omega arith }))))),
)

-- a report gives a range what it gives its days
module _ (q : Range) (lawful : LegalOn day_limit q) where
  gives_most : (r : Report) (d : ℕ) → gives_day d r ≤ r.gust + 1
  unfolding gives_day
  gives_most r d = by_test (holds r.days d)
    where
      by_test : (t : Bool) → cond t (r.gust + 1) 0 ≤ r.gust + 1
      by_test true = omega arith
      by_test false = omega arith

  gives_there : (r : Report) (d : ℕ) → holds r.days d ≡ true → gives_day d r ≡ r.gust + 1
  unfolding gives_day
  gives_there r d h = rw h refl

  gives_none : (r : Report) (d : ℕ) → holds r.days d ≡ false → gives_day d r ≡ 0
  unfolding gives_day
  gives_none r d h = rw h refl

  gives_range_lem : (r : Report) → LegalOn day_limit r.days → greatest_on (λ d. gives_day d r) q.low (suc q.high - q.low) ≡ gives_range q r
  unfolding gives_range
  gives_range_lem r l = by_test (touches_on q r.days) refl
    where
      by_test : (t : Bool) → touches_on q r.days ≡ t → greatest_on (λ d. gives_day d r) q.low (suc q.high - q.low) ≡ cond t (r.gust + 1) 0
      by_test true e =
          let k = touching_on q r.days e in
          let d = max q.low r.days.low in
          let there = gives_there r d (holds_so r.days d (record { from = omega arith; to = omega (arith, k.one, l.order) })) in
          omega (
            arith,
            there,
            greatest_has (λ d. gives_day d r) q.low (suc q.high - q.low) d (omega arith) (omega (arith, k.other, lawful.order)),
            greatest_below (λ d. gives_day d r) q.low (suc q.high - q.low) (r.gust + 1) (λ x u v. gives_most r x),
          )
      by_test false e =
          omega (arith, greatest_below (λ d. gives_day d r) q.low (suc q.high - q.low) 0 (λ x u v. omega (arith, gives_none r x (fails (holds r.days x) (λ h. apart e x u (omega arith) (holding r.days x h))))))
        where
          apart : touches_on q r.days ≡ false → (x : ℕ) → q.low ≤ x → x ≤ q.high → Holding r.days x → ⊥
          apart e x u v h = false≢true (sym e ∙ touches_on_so q r.days (record { one = omega (arith, h.to); other = omega (arith, h.from) }))

  gives_all : (rs : List Report) (s : Lent) → Taken rs s → greatest_on (λ d. most (gives_day d) rs) q.low (suc q.high - q.low) ≡ most (gives_range q) rs
  unfolding most
  gives_all [] s h = greatest_nothing q.low (suc q.high - q.low)
  gives_all (r ∷ rs) s h =
      let l = legal_on_lem day_limit r.days (kept s r.days r.gust h.0).lawful in
      greatest_max (λ d. gives_day d r) (λ d. most (gives_day d) rs) q.low (suc q.high - q.low)
      ∙ ap₂ max (gives_range_lem r l) (gives_all rs (recorded s r.days r.gust).strip h.1)

  -- A strip that was all nothing, fed without refusal, answers a range of days with the greatest gust of the reports that touch it.
  pub fed_answers : (rs : List Report) (s : Lent) → is_strip s ≡ true → ((d : ℕ) → d ≤ day_limit → meaning s d ≡ 0) → Taken rs s → greatest_in (fed rs s) q ≡ most (gives_range q) rs
  unfolding greatest_in
  fed_answers rs s e z h =
      greatest_same (meaning (fed rs s)) (λ d. most (gives_day d) rs) q.low (suc q.high - q.low)
      (λ d u v. let p : d ≤ day_limit = omega (arith, lawful.within) in omega (arith, fed_means rs s e h d p, z d p))
      ∙ gives_all rs s h
