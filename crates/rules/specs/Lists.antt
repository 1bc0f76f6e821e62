-- Laws of lists of entries: sums and greatest values over them, what a test selects, and one entry beside the others.
use Rattle.std.specs.Prelude.{Bool, ◌≡◌, ℕ, zero, suc, ◌+◌, ◌-◌, max, ◌≤◌, ◌<◌, length, get_or, set, take}
use Rattle.std.proofs.Math.Bool.{true, false, not}
use mathlib.Core.List.{List, [], ◌∷◌, ◌++◌, flat_map, append_assoc}
use Rattle.std.proofs.Math.Path.{refl, sym, ap}
use Rattle.std.proofs.Common.{◌∙◌, subst, not-suc-le-zero, le_of_suc-le-suc}
use native.Mathlib.Omega.{arith}
use Rattle.std.proofs.Math.ListN.{drop}
use Rattle.std.proofs.Math.Seq.{split_at}
use Rattle.std.proofs.lemmas.List.{set_split}
use Rattle.pages.specs.Layout.{zero_entry}
use Rattle.pages.specs.declared.Entry.{Entry}
use Rattle.split.specs.Split.{without}
use Rattle.split.specs.SplitLaws.{weigh, Each, weigh_append, weigh_count, each_append, each_first, each_second}
use Rattle.rules.specs.Strike.{cons_if, select}
unfoldable pub use Rattle.asking.specs.BoxMax.{greatest as best_of}

pub best_append : (f : Entry → ℕ) (xs ys : List Entry) → best_of f (xs ++ ys) ≡ max (best_of f xs) (best_of f ys)
unfolding best_of
best_append f [] ys = omega arith
best_append f (x ∷ xs) ys = omega (arith, best_append f xs ys)

pub best_one : (f : Entry → ℕ) (e : Entry) → best_of f (e ∷ []) ≡ f e
unfolding best_of
best_one f e = omega arith

pub best_at : (f : Entry → ℕ) (es : List Entry) (i : ℕ) → i < length es → f (get_or es i zero_entry) ≤ best_of f es
unfolding best_of
best_at f [] i h = absurd (not-suc-le-zero h)
best_at f (e ∷ es) zero h = omega arith
best_at f (e ∷ es) (suc i) h = omega (arith, best_at f es i (le_of_suc-le-suc h))

pub best_most : (f : Entry → ℕ) (t : ℕ) (es : List Entry) → Each (λ e. f e ≤ t) es → best_of f es ≤ t
unfolding best_of
best_most f t [] p = omega arith
best_most f t (e ∷ es) p = let k = best_most f t es p.1 in let h = p.0 in omega arith

pub best_each : (f : Entry → ℕ) (t : ℕ) (es : List Entry) → best_of f es ≤ t → Each (λ e. f e ≤ t) es
unfolding best_of
best_each f t [] p = tt
best_each f t (e ∷ es) p = (omega arith, best_each f t es (omega arith))

-- what holds of each
pub each_imp : (P Q : Entry → Type 0) (es : List Entry) → ((e : Entry) → P e → Q e) → Each P es → Each Q es
each_imp P Q [] f p = tt
each_imp P Q (e ∷ es) f p = (f e p.0, each_imp P Q es f p.1)

pub each_both : (P Q : Entry → Type 0) (es : List Entry) → Each P es → Each Q es → Each (λ e. P e × Q e) es
each_both P Q [] p q = tt
each_both P Q (e ∷ es) p q = ((p.0, q.0), each_both P Q es p.1 q.1)

pub weigh_same : (f g : Entry → ℕ) (es : List Entry) → Each (λ e. f e ≡ g e) es → weigh f es ≡ weigh g es
unfolding weigh
weigh_same f g [] p = refl
weigh_same f g (e ∷ es) p = let h = p.0 in omega (arith, weigh_same f g es p.1)

pub best_same : (f g : Entry → ℕ) (es : List Entry) → Each (λ e. f e ≡ g e) es → best_of f es ≡ best_of g es
unfolding best_of
best_same f g [] p = refl
best_same f g (e ∷ es) p = let h = p.0 in let k = best_same f g es p.1 in omega arith

pub weigh_zero : (f : Entry → ℕ) (es : List Entry) → Each (λ e. f e ≡ 0) es → weigh f es ≡ 0
unfolding weigh
weigh_zero f [] p = refl
weigh_zero f (e ∷ es) p = let h = p.0 in omega (arith, weigh_zero f es p.1)

-- an entry's share of a sum
pub weigh_at : (f : Entry → ℕ) (es : List Entry) (i : ℕ) → i < length es → f (get_or es i zero_entry) ≤ weigh f es
unfolding weigh
weigh_at f [] i h = absurd (not-suc-le-zero h)
weigh_at f (e ∷ es) zero h = omega arith
weigh_at f (e ∷ es) (suc i) h = omega (arith, weigh_at f es i (le_of_suc-le-suc h))

-- through flat_map
module _ (r : Entry → List Entry) where
  pub weigh_flat : (g : Entry → ℕ) (es : List Entry) → weigh g (flat_map r es) ≡ weigh (λ e. weigh g (r e)) es
  unfolding weigh flat_map
  weigh_flat g [] = refl
  weigh_flat g (e ∷ es) = omega (arith, weigh_append g (r e) (flat_map r es), weigh_flat g es)

  pub best_flat : (f : Entry → ℕ) (es : List Entry) → best_of f (flat_map r es) ≡ best_of (λ e. best_of f (r e)) es
  unfolding best_of flat_map
  best_flat f [] = refl
  best_flat f (e ∷ es) = let a = best_append f (r e) (flat_map r es) in let k = best_flat f es in omega arith

  pub flat_append : (xs ys : List Entry) → flat_map r (xs ++ ys) ≡ flat_map r xs ++ flat_map r ys
  unfolding flat_map
  flat_append [] ys = refl
  flat_append (x ∷ xs) ys = ap (λ (l : List Entry). r x ++ l) (flat_append xs ys) ∙ sym (append_assoc (r x) (flat_map r xs) (flat_map r ys))

-- sums decide the greatest: no f exceeds t exactly if the sum of what exceeds t is 0
pub over_none : (f : Entry → ℕ) (t : ℕ) (es : List Entry) → best_of f es ≤ t → weigh (λ e. f e - t) es ≡ 0
unfolding weigh best_of
over_none f t [] p = refl
over_none f t (e ∷ es) p = omega (arith, over_none f t es (omega arith))

pub none_over : (f : Entry → ℕ) (t : ℕ) (es : List Entry) → weigh (λ e. f e - t) es ≡ 0 → best_of f es ≤ t
unfolding weigh best_of
none_over f t [] p = omega arith
none_over f t (e ∷ es) p = let k = none_over f t es (omega arith) in omega arith

-- three lists, the first of which is a permutation of the other two together
pub best_parts : (f : Entry → ℕ) (es xs ys : List Entry) → ((h : Entry → ℕ) → weigh h xs + weigh h ys ≡ weigh h es) → best_of f es ≡ max (best_of f xs) (best_of f ys)
best_parts f es xs ys p =
    let m = max (best_of f xs) (best_of f ys) in
    let a = over_none f m xs (omega arith) in
    let b = over_none f m ys (omega arith) in
    let c = over_none f (best_of f es) es (omega arith) in
    let k = p (λ e. f e - m) in
    let l = p (λ e. f e - best_of f es) in
    let u : best_of f es ≤ m = none_over f m es (omega arith) in
    let v : best_of f xs ≤ best_of f es = none_over f (best_of f es) xs (omega arith) in
    let w : best_of f ys ≤ best_of f es = none_over f (best_of f es) ys (omega arith) in
    omega arith

-- what a test selects, and the rest
module _ (t : Entry → Bool) where
  pub select_weigh : (f : Entry → ℕ) (es : List Entry) → weigh f (select t es) + weigh f (select (λ e. not (t e)) es) ≡ weigh f es
  unfolding weigh select
  select_weigh f [] = refl
  select_weigh f (e ∷ es) = by_test (t e) (select_weigh f es)
    where
      by_test : (b : Bool) → weigh f (select t es) + weigh f (select (λ x. not (t x)) es) ≡ weigh f es
          → weigh f (cons_if b e (select t es)) + weigh f (cons_if (not b) e (select (λ x. not (t x)) es)) ≡ f e + weigh f es
      by_test true p = omega arith
      by_test false p = omega arith

  pub select_each : (P : Entry → Type 0) (es : List Entry) → Each P es → Each (λ e. P e × (t e ≡ true)) (select t es)
  unfolding select
  select_each P [] p = tt
  select_each P (e ∷ es) p = by_test (t e) refl (select_each P es p.1)
    where
      by_test : (b : Bool) → t e ≡ b → Each (λ x. P x × (t x ≡ true)) (select t es) → Each (λ x. P x × (t x ≡ true)) (cons_if b e (select t es))
      by_test true q r = ((p.0, q), r)
      by_test false q r = r

  pub select_length : (es : List Entry) → length (select t es) ≤ length es
  select_length es = omega (arith, select_weigh (λ e. 1) es, weigh_count (select t es), weigh_count (select (λ e. not (t e)) es), weigh_count es)

-- entry i of a list beside the others
module _ (es : List Entry) (i : ℕ) (inside : i < length es) where
  pub at_weigh : (f : Entry → ℕ) → weigh f (without i es) + f (get_or es i zero_entry) ≡ weigh f es
  unfolding weigh
  at_weigh f =
      omega (arith, weigh_append f (take i es) (drop (suc i) es), weigh_append f (take i es) (get_or es i zero_entry ∷ drop (suc i) es), ap (weigh f) (split_at es i zero_entry inside))

  pub set_weigh : (f : Entry → ℕ) (x : Entry) → weigh f (set es i x) ≡ weigh f (without i es) + f x
  unfolding weigh
  set_weigh f x = omega (arith, weigh_append f (take i es) (drop (suc i) es), weigh_append f (take i es) (x ∷ drop (suc i) es), ap (weigh f) (set_split es i x inside))

  pub at_best : (f : Entry → ℕ) → best_of f es ≡ max (best_of f (without i es)) (f (get_or es i zero_entry))
  unfolding best_of
  at_best f =
      let a = best_append f (take i es) (drop (suc i) es) in
      let b = best_append f (take i es) (get_or es i zero_entry ∷ drop (suc i) es) in
      let c = ap (best_of f) (split_at es i zero_entry inside) in
      omega arith

  pub set_best : (f : Entry → ℕ) (x : Entry) → best_of f (set es i x) ≡ max (best_of f (without i es)) (f x)
  unfolding best_of
  set_best f x =
      let a = best_append f (take i es) (drop (suc i) es) in
      let b = best_append f (take i es) (x ∷ drop (suc i) es) in
      let c = ap (best_of f) (set_split es i x inside) in
      omega arith

  pub at_each : (P : Entry → Type 0) → Each P es → Each P (without i es)
  at_each P p =
      let q : Each P (take i es ++ (get_or es i zero_entry ∷ drop (suc i) es)) = subst (Each P) (split_at es i zero_entry inside) p in
      each_append P (take i es) (drop (suc i) es) (each_first P (take i es) (get_or es i zero_entry ∷ drop (suc i) es) q) (each_second P (take i es) (get_or es i zero_entry ∷ drop (suc i) es) q).1

  pub set_each : (P : Entry → Type 0) (x : Entry) → Each P (without i es) → P x → Each P (set es i x)
  set_each P x p q =
      let r : Each P (take i es ++ (x ∷ drop (suc i) es)) = each_append P (take i es) (x ∷ drop (suc i) es) (each_first P (take i es) (drop (suc i) es) p) (q, each_second P (take i es) (drop (suc i) es) p) in
      subst (Each P) (sym (set_split es i x inside)) r
