-- Laws of the code's steps, over plain numbers and lists: each closes a return or a turn of a loop.
use Rattle.std.specs.Prelude.{ℕ, zero, suc, ◌+◌, ◌-◌, ◌≤◌, ◌<◌, max, Bool, true, false, ◌&&◌, List, ◌∷◌, ◌≡◌, eqb, length, drop, get_or, set}
use Rattle.std.specs.Int.{from_bool}
use Rattle.std.proofs.Math.Path.{refl}
use Rattle.std.proofs.Common.{sym, ap, ap₂, ◌∙◌, add-one, arith, length-set, drop-cons, drop-set-lt, get_or-set_same}
use borrow.Author.Tests.{lt-ltb, le-ltb, le-leb, lt-leb}
use Rattle.std.proofs.Math.Seq.{drop-length}
use Rattle.ground.specs.declared.boxes.Range.{Range}
use Rattle.strip.specs.Strips.{all_days, no_value, last_of, value_of, parts, in_front}
use Rattle.strip.specs.Places.{first_from, first_day}
use Rattle.strip.specs.Walking.{may_follow, Fronted, piece_first}

pub first_at_all : (words : List ℕ) (i : ℕ) → i ≡ 0 → 0 ≡ first_day words i
unfolding first_from
first_at_all words i e = rw e refl

pub first_after : (words : List ℕ) (i r : ℕ) → (i ≡ 0 → ⊥) → r ≡ last_of (get_or words (i - 1) 0) → r + 1 ≡ first_day words i
unfolding first_from
first_after words zero r h e = absurd (h refl)
first_after words (suc i) r h e =
    let z : suc i - 1 ≡ i = omega arith in
    let k = rw z at e in
    omega arith

pub first_next : (words : List ℕ) (i : ℕ) → first_day words (suc i) ≡ suc (last_of (get_or words i 0))
unfolding first_from
first_next words i = refl

-- a word in front, written in any case and counted if it stands
pub in_front_lem : (made : List ℕ) (place w r : ℕ) (stands : Bool) → 1 ≤ place → place ≤ length made → r ≡ place - from_bool stands → Fronted made (set made (place - 1) w) place stands w r
unfolding in_front
in_front_lem made zero w r stands h k e = elim h [ ]
in_front_lem made (suc i) w r true h k e =
    let z : suc i - 1 ≡ i = omega arith in
    record {
      most = omega arith;
      least = omega arith;
      words = rw (e, z) (drop-cons (set made i w) i 0 (omega (arith, length-set made i w)) ∙ ap₂ (λ x y. x ∷ y) (get_or-set_same made i w 0 (omega arith)) (drop-set-lt (suc i) made i w (omega arith)));
      long = rw z (length-set made i w);
    }
in_front_lem made (suc i) w r false h k e =
    let z : suc i - 1 ≡ i = omega arith in
    let y : r ≡ suc i = omega arith in
    record {
      most = omega arith;
      least = omega arith;
      words = rw (y, z) (drop-set-lt (suc i) made i w (omega arith));
      long = rw z (length-set made i w);
    }

-- the piece's first day, by its three cases
module _ (first last : ℕ) (days : Range) where
  pub piece_above : days.high < last → piece_first first last days ≡ max first (days.high + 1)
  piece_above h = rw (lt-ltb days.high last h) refl

  pub piece_among : last ≤ days.high → days.low ≤ last → piece_first first last days ≡ max first days.low
  piece_among h k = rw (le-ltb days.high last h, le-leb days.low last k) refl

  pub piece_below : last ≤ days.high → last < days.low → piece_first first last days ≡ first
  piece_below h k = rw (le-ltb days.high last h, lt-leb days.low last k) refl

-- the check: what is passed, and what is left of the words
pub record Passed (words : List ℕ) (good : Bool) (first before i : ℕ) : Type 0 where
  pub same : good && parts first before (drop i words) ≡ parts 0 no_value words

and_assoc : (a b c : Bool) → (a && b) && c ≡ a && (b && c)
and_assoc true b c = refl
and_assoc false b c = refl

pub passed_more : (words : List ℕ) (good t : Bool) (first before i last value : ℕ) → Passed words good first before i → i < length words
    → last ≡ last_of (get_or words i 0) → value ≡ value_of (get_or words i 0) → t ≡ may_follow first before last value → Passed words (good && t) (last + 1) value (i + 1)
unfolding parts
passed_more words good t first before i last value h p f g e =
    record {
      same =
          rw (add-one i, add-one last, e, f, g)
          (and_assoc good (may_follow first before (last_of (get_or words i 0)) (value_of (get_or words i 0))) (parts (suc (last_of (get_or words i 0))) (value_of (get_or words i 0)) (drop (suc i) words))
          ∙ ap (λ l. good && parts first before l) (sym (drop-cons words i 0 p))
          ∙ h.same);
    }

pub passed_all : (words : List ℕ) (good : Bool) (first before i all : ℕ) → Passed words good first before i → i ≤ length words → length words ≤ i → all ≡ all_days → good && eqb first all ≡ parts 0 no_value words
unfolding parts
passed_all words good first before i all h p q e =
    let z : i ≡ length words = omega arith in
    rw e (ap (λ l. good && parts first before l) (sym (ap (λ k. drop k words) z ∙ drop-length words)) ∙ h.same)
