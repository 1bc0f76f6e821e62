-- The chosen child's entry, and what stands in its place when the walk comes back.
use Rattle.std.specs.Prelude.{Bool, true, false, cond, List, [], ◌∷◌, ◌++◌, ◌≡◌, ℕ, zero, suc, ◌+◌, ◌-◌, max, ◌≤◌, ◌<◌, length, get_or, set}
use Rattle.std.proofs.Math.Path.{refl, ap, subst}
use Rattle.std.proofs.Common.{sym, ◌∙◌, arith, length-set}
use Rattle.std.proofs.Math.ListN.{length-append}
use Rattle.ground.specs.declared.boxes.Box.{Box}
use Rattle.pages.specs.Layout.{zero_entry}
use Rattle.pages.specs.declared.Entry.{Entry}
use Rattle.pages.specs.declared.Page.{Page}
use Rattle.split.specs.Split.{without}
use Rattle.split.specs.SplitLaws.{weigh, Each, weigh_append, each_append}
use Rattle.rules.specs.Lists.{best_of, best_append, set_weigh, set_best, set_each}
use Rattle.rules.specs.Recording.{goes_before, least_grown, choose, exact_at}
use Rattle.rules.specs.SettleLaws.{handle}

-- the chosen place is one of the list
pub least_grown_most : (b : Box) (es : List Entry) (n : ℕ) → least_grown b es n ≤ n
unfolding least_grown
least_grown_most b es zero = omega arith
least_grown_most b es (suc n) = by_test (goes_before b (get_or es (suc n) zero_entry) (get_or es (least_grown b es n) zero_entry)) (least_grown_most b es n)
  where
    by_test : (t : Bool) → least_grown b es n ≤ n → cond t (suc n) (least_grown b es n) ≤ suc n
    by_test true h = omega arith
    by_test false h = omega arith

pub choose_inside : (b : Box) (es : List Entry) → 1 ≤ length es → choose b es < length es
unfolding choose
choose_inside b es h = omega (arith, least_grown_most b es (length es - 1))

-- The entry at place i replaced by others: its own page's, and perhaps one appended.
pub record Replaced (es : List Entry) (i : ℕ) (hs after : List Entry) : Type 1 where
  pub sums : (f : Entry → ℕ) → weigh f after ≡ weigh f (without i es) + weigh f hs
  pub bests : (f : Entry → ℕ) → best_of f after ≡ max (best_of f (without i es)) (best_of f hs)
  pub each : (P : Entry → Type 0) → Each P (without i es) → Each P hs → Each P after
  pub some : 1 ≤ length after
  pub most : length after ≤ length es + 1

module _ (ps : List Page) (es : List Entry) (i : ℕ) (inside : i < length es) where
  c : ℕ
  c = (get_or es i zero_entry).child

  exact_is : exact_at ps es i ≡ set es i (handle ps (get_or es i zero_entry).child)
  unfolding exact_at
  exact_is = refl

  length_exact : length (exact_at ps es i) ≡ length es
  length_exact = ap length exact_is ∙ length-set es i (handle ps (get_or es i zero_entry).child)

  pub replaced_one : Replaced es i (handle ps (get_or es i zero_entry).child ∷ []) (exact_at ps es i)
  unfolding weigh best_of
  replaced_one =
      let x = handle ps (get_or es i zero_entry).child in
      record {
        sums = λ f. let a = set_weigh es i inside f x in let b = ap (weigh f) exact_is in omega arith;
        bests = λ f. let a = set_best es i inside f x in let b = ap (best_of f) exact_is in omega arith;
        each = λ P p q. subst (Each P) (sym exact_is) (set_each es i inside P x p q.0);
        some = omega (arith, length_exact);
        most = omega (arith, length_exact);
      }

  pub replaced_two : (y : Entry) → Replaced es i (handle ps (get_or es i zero_entry).child ∷ y ∷ []) (exact_at ps es i ++ (y ∷ []))
  unfolding weigh best_of
  replaced_two y =
      let o = replaced_one in
      let x = handle ps (get_or es i zero_entry).child in
      record {
        sums = λ f. let a = o.sums f in let b = weigh_append f (exact_at ps es i) (y ∷ []) in omega arith;
        bests = λ f. let a = o.bests f in let b = best_append f (exact_at ps es i) (y ∷ []) in omega arith;
        each = λ P p q. each_append P (exact_at ps es i) (y ∷ []) (o.each P p (q.0, tt)) q.1;
        some = omega (arith, length-append (exact_at ps es i) (y ∷ []));
        most = omega (arith, length-append (exact_at ps es i) (y ∷ []), length_exact);
      }
