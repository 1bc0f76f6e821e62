-- The book's calls take numbers of 16 bits. Handed the numbers narrowed, they answer and leave what the rules say of the numbers given.
use Rattle.std.specs.Prelude.{ℕ, Bool, List, ◌≡◌, eqb}
use Rattle.std.proofs.Math.Bool.{true, false, cond}
use Rattle.std.proofs.Math.Path.{refl, ap}
use Rattle.std.proofs.Common.{sym, ap₂, ◌∙◌, arith, eqb-true, leb-true}
use Rattle.std.proofs.lemmas.Bool.{eqb-false}
use Rattle.asking.specs.Asking.{asked, answered, search_book}
use Rattle.std.specs.Prelude.{Err}
use Rattle.ground.specs.declared.refusals.Refusal.TheVariants as no
use Rattle.ground.specs.Boxes.{legal, gust_limit}
use Rattle.ground.specs.declared.boxes.Box.{Box}
use Rattle.wide.specs.Wide.{narrow, narrowed, as_given, narrow_legal, narrow_passes, narrow_keeps}
use Rattle.wide.specs.declared.WideBox.{WideBox}
use Rattle.pages.specs.Layout.{table_fits, pages_of}
use Rattle.pages.specs.declared.Small.{Small}
use Rattle.rules.specs.Record.{refusal, refused, record_into}
use Rattle.rules.specs.RecordLaws.{not_refused, refused_law}

module _ (t : List ℕ) (s : Small) (x : WideBox) where
  refusal_wide : (v : ℕ) → refusal t s (narrowed x) (narrow v) ≡ refusal t s (as_given x) v
  unfolding refusal
  refusal_wide v = rw (narrow_legal x, narrow_passes v)

  pub record_wide : (v : ℕ) → record_into t s (narrowed x) (narrow v) ≡ record_into t s (as_given x) v
  record_wide v = by_test (eqb (refusal t s (as_given x) v) 0) refl
    where
      by_test : (c : Bool) → eqb (refusal t s (as_given x) v) 0 ≡ c → record_into t s (narrowed x) (narrow v) ≡ record_into t s (as_given x) v
      by_test false e =
          let d = eqb-false (refusal t s (as_given x) v) 0 e in
          refused_law t s (narrowed x) (narrow v) (λ z. d (sym (refusal_wide v) ∙ z))
          ∙ ap (λ n. refused n t s) (refusal_wide v)
          ∙ sym (refused_law t s (as_given x) v d)
      by_test true e =
          let a = not_refused t s (as_given x) v (eqb-true (refusal t s (as_given x) v) 0 e) in
          let few : narrow v ≡ v = omega (arith, leb-true v gust_limit a.passes) in
          ap₂ (λ (b : Box) (w : ℕ). record_into t s b w) (narrow_keeps x a.lawful) few

  pub ask_wide : asked t s (narrowed x) ≡ asked t s (as_given x)
  unfolding asked
  ask_wide = rw (narrow_legal x) (ap (λ a. cond (table_fits t) a (Err no.Table)) (by_test (legal (as_given x)) refl))
    where
      by_test : (c : Bool) → legal (as_given x) ≡ c → cond c (answered (search_book (pages_of t) s (narrowed x))) (Err no.Box) ≡ cond c (answered (search_book (pages_of t) s (as_given x))) (Err no.Box)
      by_test true e = ap (λ (b : Box). answered (search_book (pages_of t) s b)) (narrow_keeps x e)
      by_test false e = refl
