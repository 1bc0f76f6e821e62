-- Laws of the calendar: numbers keep the order of dates, and every number up to the day limit is one date's.
use Rattle.std.specs.Prelude.{Bool, true, false, ◌&&◌, ◌||◌, not, cond, List, [], ◌∷◌, ◌≡◌, refl, leb, ltb, eqb}
use Rattle.std.proofs.Common.{⊎_elim, sym, ap, ◌∙◌, le_antisymm, add-one, leb-true, le-leb, eqb-true, ne_eqb, lt-ltb, le-ltb, ltb-true, eq-eqb, lit≤}
use Rattle.std.proofs.Math.Path.{subst}
use Prim.Native.Nat.{ℕ, zero, suc, ◌+◌, ◌-◌, ◌≤◌, ◌<◌, max}
use native.Mathlib.Omega.{arith}
use Rattle.std.proofs.lemmas.Bool.{not-true, not-false}
use Rattle.std.proofs.Math.ListN.{get_or, get_or-eq_default}
use Rattle.ground.specs.Boxes.{day_limit}
use Rattle.ground.specs.Dates.{first_year, last_year, last_date, leap, length_of_year, length_of_month, month_lengths, is_date, days_before_year, days_before_month, day_number, day_of, earlier}
use Rattle.ground.specs.Sums.{total, total_step, total_within}
use Rattle.ground.specs.Tests.{both, three, joint, joint_three, either, same_test, below_or_not}
use Rattle.ground.specs.declared.dates.Date.{Date}
use Rattle.std.specs.Prelude.{Some, None}

-- the length of a month, as it is looked up
module _ (y m : ℕ) where
  pub no_month_zero : m < 1 → 0 ≡ length_of_month y m
  unfolding length_of_month
  no_month_zero p = let e : m ≡ 0 = omega arith in rw e

  pub no_month_past : 12 < m → 0 ≡ length_of_month y m
  unfolding length_of_month
  no_month_past p = rw (ne_eqb m 2 (λ e. omega arith), get_or-eq_default (0 ∷ month_lengths) 0 {n = m} p)

  pub leap_february : (l : Bool) → l ≡ leap y → eqb m 2 && l ≡ true → 29 ≡ length_of_month y m
  unfolding length_of_month
  leap_february l p e = rw (← p, e)

  pub month_in_table : (l : Bool) → l ≡ leap y → 1 ≤ m → eqb m 2 && l ≡ false → get_or month_lengths (m - 1) 0 ≡ length_of_month y m
  unfolding length_of_month
  month_in_table l q p e = rw (← q, e) (below_head m p)
    where
      below_head : (k : ℕ) → 1 ≤ k → get_or month_lengths (k - 1) 0 ≡ get_or (0 ∷ month_lengths) k 0
      below_head zero q = omega arith
      below_head (suc k) q = let h : suc k - 1 ≡ k = omega arith in rw h

-- no month has more than 31 days
within : ℕ → List ℕ → Bool
within k [] = true
within k (x ∷ xs) = leb x k && within k xs

within_at : (k : ℕ) (l : List ℕ) (i : ℕ) → within k l ≡ true → get_or l i 0 ≤ k
unfolding within
within_at k [] i e = omega arith
within_at k (x ∷ xs) zero e = leb-true x k (both (leb x k) (within k xs) e).0
within_at k (x ∷ xs) (suc i) e = within_at k xs i (both (leb x k) (within k xs) e).1

pub month_most : (y m : ℕ) → length_of_month y m ≤ 31
unfolding length_of_month within
month_most y m = by_february (eqb m 2 && leap y)
  where
    by_february : (f : Bool) → cond f 29 (get_or (0 ∷ month_lengths) m 0) ≤ 31
    by_february true = lit≤ tt
    by_february false = within_at 31 (0 ∷ month_lengths) m refl

-- the twelve months make the year
months_make_year : (y : ℕ) → total (λ n. length_of_month y (n + 1)) 12 ≡ length_of_year y
unfolding total length_of_month length_of_year
months_make_year y = by_leap (leap y) refl
  where
    by_leap : (l : Bool) → leap y ≡ l → total (λ n. length_of_month y (n + 1)) 12 ≡ cond (leap y) 366 365
    by_leap true e = rw e
    by_leap false e = rw e

-- what a date of the calendar is known by
pub record Dated (y m d : ℕ) : Type 0 where
  pub first : first_year ≤ y
  pub last : y ≤ last_year
  pub start : 1 ≤ d
  pub end : d ≤ length_of_month y m
  pub month : 1 ≤ m
  pub months : m ≤ 12

pub dated : (d : Date) → is_date d ≡ true → Dated d.year d.month d.day
unfolding is_date
dated d e =
    let h = both (leb first_year d.year && leb d.year last_year && leb 1 d.day) (leb d.day (length_of_month d.year d.month)) e in
    let g = three (leb first_year d.year) (leb d.year last_year) (leb 1 d.day) h.0 in
    let first = leb-true first_year d.year g.0 in
    let last = leb-true d.year last_year g.1 in
    let start = leb-true 1 d.day g.2 in
    let end = leb-true d.day (length_of_month d.year d.month) h.1 in
    record {
      first = first;
      last = last;
      start = start;
      end = end;
      month = ⊎_elim (λ p. let z = no_month_zero d.year d.month p in omega arith) (λ q. q) (below_or_not d.month 1);
      months = ⊎_elim (λ p. let z = no_month_past d.year d.month p in omega arith) (λ q. q) (below_or_not 12 d.month);
    }

-- the days before a month, as they are computed
pub months_start : (y : ℕ) → 0 ≡ days_before_month y 1
unfolding days_before_month total
months_start y = refl

pub months_next : (y m : ℕ) → 1 ≤ m → days_before_month y (m + 1) ≡ days_before_month y m + length_of_month y m
unfolding days_before_month total
months_next y m p = by_month m p
  where
    by_month : (k : ℕ) → 1 ≤ k → total (λ n. length_of_month y (n + 1)) (k + 1 - 1) ≡ total (λ n. length_of_month y (n + 1)) (k - 1) + length_of_month y k
    by_month zero q = omega arith
    by_month (suc k) q =
        let f : suc k + 1 - 1 ≡ suc k = omega arith in
        let g : suc k - 1 ≡ k = omega arith in
        let h : k + 1 ≡ suc k = add-one k in
        rw (f, g, h)

pub months_end : (y m k : ℕ) → k ≤ m → m ≤ max 1 k → days_before_month y m ≡ days_before_month y k
unfolding days_before_month total
months_end y m k p q = let e : m - 1 ≡ k - 1 = omega arith in rw e

-- the day limit is the number of the calendar's last date, and all years together have one day more
pub limit_is_last : day_of last_date ≡ Some day_limit
unfolding day_of is_date length_of_month day_number days_before_year days_before_month length_of_year total
limit_is_last = refl

all_years : total (λ k. length_of_year (first_year + k)) 160 ≡ day_limit + 1
unfolding total length_of_year
all_years = refl

-- a date lies inside its year, and its year inside the calendar
module _ (y m d : ℕ) (h : Dated y m d) where
  month_room : days_before_month y m + length_of_month y m ≤ length_of_year y
  unfolding days_before_month
  month_room =
      let k = total_step (λ n. length_of_month y (n + 1)) (m - 1) 12 (omega arith) in
      let e : m - 1 + 1 ≡ m = omega arith in
      let s : total (λ n. length_of_month y (n + 1)) (m - 1) + length_of_month y m ≤ total (λ n. length_of_month y (n + 1)) 12 = subst (λ i. total (λ n. length_of_month y (n + 1)) (m - 1) + length_of_month y i ≤ total (λ n. length_of_month y (n + 1)) 12) e k in
      omega (arith, months_make_year y)

  year_step : (n : ℕ) → y - first_year < n → days_before_year y + length_of_year y ≤ total (λ k. length_of_year (first_year + k)) n
  unfolding days_before_year
  year_step n p =
      let e : first_year + (y - first_year) ≡ y = omega arith in
      subst (λ i. total (λ k. length_of_year (first_year + k)) (y - first_year) + length_of_year i ≤ total (λ k. length_of_year (first_year + k)) n) e (total_step (λ k. length_of_year (first_year + k)) (y - first_year) n p)

  number_room : days_before_year y + days_before_month y m + (d - 1) < days_before_year y + length_of_year y
  number_room = omega (arith, month_room)

  most_room : days_before_year y + length_of_year y ≤ day_limit + 1
  most_room = omega (arith, year_step 160 (omega arith), all_years)

-- every day number is at most the limit
pub number_most : (d : Date) → is_date d ≡ true → day_number d ≤ day_limit
unfolding day_number
number_most d e =
    let h = dated d e in
    omega (arith, number_room d.year d.month d.day h, most_room d.year d.month d.day h)

-- every number up to the limit is some date's
pub record Numbered (n : ℕ) : Type 0 where
  pub date : Date
  pub is_date_lem : is_date date ≡ true
  pub number : day_number date ≡ n

dated_so : (y m d : ℕ) → Dated y m d → is_date (record { year = y; month = m; day = d }) ≡ true
unfolding is_date
dated_so y m d h =
    joint (leb first_year y && leb y last_year && leb 1 d) (leb d (length_of_month y m))
    (joint_three (leb first_year y) (leb y last_year) (leb 1 d) (le-leb first_year y h.first) (le-leb y last_year h.last) (le-leb 1 d h.start))
    (le-leb d (length_of_month y m) h.end)

-- the date that lies so many whole years, then months, then days after the first
dated_after : (n k j i : ℕ) → k < 160 → j < 12 → i < length_of_month (first_year + k) (j + 1) → total (λ y. length_of_year (first_year + y)) k + total (λ m. length_of_month (first_year + k) (m + 1)) j + i ≡ n → Numbered n
unfolding day_number days_before_year days_before_month
dated_after n k j i p q r whole =
    let e : first_year + k - first_year ≡ k = omega arith in
    let f : j + 1 - 1 ≡ j = omega arith in
    let g : i + 1 - 1 ≡ i = omega arith in
    record {
      date = record { year = first_year + k; month = j + 1; day = i + 1 };
      is_date_lem = dated_so (first_year + k) (j + 1) (i + 1) (record { first = omega arith; last = omega arith; start = omega arith; end = omega arith; month = omega arith; months = omega arith });
      number = rw (e, f, g) whole;
    }

pub every_number : (n : ℕ) → n ≤ day_limit → Numbered n
every_number n p =
    let y = total_within (λ k. length_of_year (first_year + k)) n 160 (omega (arith, all_years)) in
    let left = n - total (λ k. length_of_year (first_year + k)) y.term in
    let m = total_within (λ k. length_of_month (first_year + y.term) (k + 1)) left 12 (omega (arith, y.start, y.end, months_make_year (first_year + y.term))) in
    let day = left - total (λ k. length_of_month (first_year + y.term) (k + 1)) m.term in
    dated_after n y.term m.term day y.inside m.inside (omega (arith, m.start, m.end)) (omega (arith, y.start, m.start))

-- the rule, as it is computed from the days before the year (u) and the month (v)
pub day_lacks : (d : Date) → not (is_date d) ≡ true → None ≡ day_of d
unfolding day_of
day_lacks d e = rw (not-true (is_date d) e)

pub record Counted (d : Date) (u v : ℕ) : Type 0 where
  pub start : 1 ≤ d.day
  pub most : u + v + (d.day - 1) ≤ day_limit
  pub is : Some (u + v + (d.day - 1)) ≡ day_of d

pub counted : (d : Date) (u v : ℕ) → not (is_date d) ≡ false → u ≡ days_before_year d.year → v ≡ days_before_month d.year d.month → Counted d u v
unfolding day_of day_number
counted d u v n p q =
    let e = not-false (is_date d) n in
    record {
      start = (dated d e).start;
      most = rw (p, q) (number_most d e);
      is = rw (e, p, q);
    }

-- the order of dates is the order of their numbers
before_in_month : (y m d d' : ℕ) → 1 ≤ d → d < d' → days_before_year y + days_before_month y m + (d - 1) < days_before_year y + days_before_month y m + (d' - 1)
before_in_month y m d d' s p = omega arith

before_in_year : (y m d m' d' : ℕ) → Dated y m d → m < m' → days_before_year y + days_before_month y m + (d - 1) < days_before_year y + days_before_month y m' + (d' - 1)
unfolding days_before_month
before_in_year y m d m' d' h p =
    let e : m - 1 + 1 ≡ m = omega arith in
    let k = subst (λ i. total (λ n. length_of_month y (n + 1)) (m - 1) + length_of_month y i ≤ total (λ n. length_of_month y (n + 1)) (m' - 1)) e (total_step (λ n. length_of_month y (n + 1)) (m - 1) (m' - 1) (omega arith)) in
    omega arith

before_by_year : (y m d y' m' d' : ℕ) → Dated y m d → y < y' → days_before_year y + days_before_month y m + (d - 1) < days_before_year y' + days_before_month y' m' + (d' - 1)
unfolding days_before_year
before_by_year y m d y' m' d' h p = omega (arith, number_room y m d h, year_step y m d h (y' - first_year) (omega arith))

-- one date is earlier than another, or is it, or is later
data Order (a b : Date) : Type 0 where
  sooner : earlier a b ≡ true → day_number a < day_number b → Order a b
  same : a ≡ b → Order a b
  later : earlier b a ≡ true → day_number b < day_number a → Order a b

-- a test by year, month and day, taken apart
not_sooner_self : (n : ℕ) → ltb n n ≡ false
not_sooner_self n = le-ltb n n (omega arith)

earlier_year : (a b : Date) → a.year < b.year → earlier a b ≡ true
unfolding earlier
earlier_year a b p = rw (lt-ltb a.year b.year p)

earlier_month : (a b : Date) → a.year ≡ b.year → a.month < b.month → earlier a b ≡ true
unfolding earlier
earlier_month a b e p = rw (e, not_sooner_self b.year, eq-eqb b.year b.year refl, lt-ltb a.month b.month p)

earlier_day : (a b : Date) → a.year ≡ b.year → a.month ≡ b.month → a.day < b.day → earlier a b ≡ true
unfolding earlier
earlier_day a b e f p = rw (e, f, not_sooner_self b.year, eq-eqb b.year b.year refl, not_sooner_self b.month, eq-eqb b.month b.month refl, lt-ltb a.day b.day p)

sooner_year : (a b : Date) → is_date a ≡ true → a.year < b.year → day_number a < day_number b
unfolding day_number
sooner_year a b h p = before_by_year a.year a.month a.day b.year b.month b.day (dated a h) p

sooner_month : (a b : Date) → is_date a ≡ true → a.year ≡ b.year → a.month < b.month → day_number a < day_number b
unfolding day_number
sooner_month a b h e p = rw (← e) (before_in_year a.year a.month a.day b.month b.day (dated a h) p)

sooner_day : (a b : Date) → is_date a ≡ true → a.year ≡ b.year → a.month ≡ b.month → a.day < b.day → day_number a < day_number b
unfolding day_number
sooner_day a b h e f p = rw (← e, ← f) (before_in_month a.year a.month a.day b.day (dated a h).start p)

compared : (a b : Date) → is_date a ≡ true → is_date b ≡ true → Order a b
compared a b h k =
    ⊎_elim (λ p. sooner (earlier_year a b p) (sooner_year a b h p))
    (λ p. ⊎_elim (λ q. later (earlier_year b a q) (sooner_year b a k q))
    (λ q. in_year (le_antisymm q p))
    (below_or_not b.year a.year))
    (below_or_not a.year b.year)
  where
    in_month : a.year ≡ b.year → a.month ≡ b.month → Order a b
    in_month e f =
        ⊎_elim (λ p. sooner (earlier_day a b e f p) (sooner_day a b h e f p))
        (λ p. ⊎_elim (λ q. later (earlier_day b a (sym e) (sym f) q) (sooner_day b a k (sym e) (sym f) q))
        (λ q. same (λ i. record { year = e i; month = f i; day = le_antisymm q p i }))
        (below_or_not b.day a.day))
        (below_or_not a.day b.day)

    in_year : a.year ≡ b.year → Order a b
    in_year e =
        ⊎_elim (λ p. sooner (earlier_month a b e p) (sooner_month a b h e p))
        (λ p. ⊎_elim (λ q. later (earlier_month b a (sym e) q) (sooner_month b a k (sym e) q))
        (λ q. in_month e (le_antisymm q p))
        (below_or_not b.month a.month))
        (below_or_not a.month b.month)

earlier_sooner : (a b : Date) → is_date a ≡ true → earlier a b ≡ true → day_number a < day_number b
unfolding earlier
earlier_sooner a b h e =
    ⊎_elim (λ p. sooner_year a b h (ltb-true a.year b.year p))
    (λ p. let k = both (eqb a.year b.year) (ltb a.month b.month || eqb a.month b.month && ltb a.day b.day) p in in_year (eqb-true a.year b.year k.0) k.1)
    (either (ltb a.year b.year) (eqb a.year b.year && (ltb a.month b.month || eqb a.month b.month && ltb a.day b.day)) e)
  where
    in_year : a.year ≡ b.year → ltb a.month b.month || eqb a.month b.month && ltb a.day b.day ≡ true → day_number a < day_number b
    in_year f t =
        ⊎_elim (λ p. sooner_month a b h f (ltb-true a.month b.month p))
        (λ p. let k = both (eqb a.month b.month) (ltb a.day b.day) p in sooner_day a b h f (eqb-true a.month b.month k.0) (ltb-true a.day b.day k.1))
        (either (ltb a.month b.month) (eqb a.month b.month && ltb a.day b.day) t)

module _ (a b : Date) (h : is_date a ≡ true) (k : is_date b ≡ true) where
  -- the order of dates is the order of numbers
  pub order_kept : earlier a b ≡ ltb (day_number a) (day_number b)
  order_kept =
      same_test (earlier a b) (ltb (day_number a) (day_number b))
      (λ e. lt-ltb (day_number a) (day_number b) (earlier_sooner a b h e))
      (λ e. by_order (ltb-true (day_number a) (day_number b) e) (compared a b h k))
    where
      by_order : day_number a < day_number b → Order a b → earlier a b ≡ true
      by_order p (sooner e q) = e
      by_order p (same e) = let f = ap day_number e in absurd (omega arith)
      by_order p (later e q) = absurd (omega arith)

  -- different dates have different numbers
  pub number_tells : day_number a ≡ day_number b → a ≡ b
  number_tells p = by_order (compared a b h k)
    where
      by_order : Order a b → a ≡ b
      by_order (sooner e q) = absurd (omega arith)
      by_order (same e) = e
      by_order (later e q) = absurd (omega arith)
