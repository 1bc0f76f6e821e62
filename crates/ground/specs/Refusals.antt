-- RULES.md, section 7: refusal N is rule 7.N.
use Rattle.std.specs.Prelude.{ℕ, List, [], ◌∷◌, Result, Ok, Err, ◌≡◌, refl, get_or, ◌<◌}
use Rattle.std.proofs.Common.{sym, ap, ◌∙◌, arith}
use Rattle.ground.specs.declared.refusals.Refusal.{Refusal}
use Rattle.ground.specs.declared.refusals.Refusal.TheVariants as no

abbrev pub number : Refusal → ℕ
number no.Table = 1
number no.Box = 2
number no.Gust = 3
number no.Damaged = 4
number no.Spent = 5
number no.Full = 6
number no.Size = 7
number no.Trailer = 8
number no.Line = 9
number no.Strip = 10
number no.Sheet = 11

-- Rule 7.31: a call that is refused returns the number and nothing else; 0 says that it is not.
abbrev pub number_of : {T : Type 0} → Result T Refusal → ℕ
number_of (Ok x) = 0
number_of (Err refusal) = number refusal

-- An answer, or the number of the refusal.
abbrev pub numbered : {T : Type 0} → Result T Refusal → Result T ℕ
numbered (Ok answer) = Ok answer
numbered (Err refusal) = Err (number refusal)

-- The numbers of the refusals tell them apart.
by_number : ℕ → Refusal
by_number n = get_or (no.Table ∷ no.Table ∷ no.Box ∷ no.Gust ∷ no.Damaged ∷ no.Spent ∷ no.Full ∷ no.Size ∷ no.Trailer ∷ no.Line ∷ no.Strip ∷ no.Sheet ∷ []) n no.Table

told_apart : (refusal : Refusal) → by_number (number refusal) ≡ refusal
unfolding by_number
told_apart no.Table = refl
told_apart no.Box = refl
told_apart no.Gust = refl
told_apart no.Damaged = refl
told_apart no.Spent = refl
told_apart no.Full = refl
told_apart no.Size = refl
told_apart no.Trailer = refl
told_apart no.Line = refl
told_apart no.Strip = refl
told_apart no.Sheet = refl

pub number_tells : (a b : Refusal) → number a ≡ number b → a ≡ b
number_tells a b e = sym (told_apart a) ∙ ap by_number e ∙ told_apart b

-- None of them is 0.
pub positive : (refusal : Refusal) → 0 < number refusal
positive no.Table = omega arith
positive no.Box = omega arith
positive no.Gust = omega arith
positive no.Damaged = omega arith
positive no.Spent = omega arith
positive no.Full = omega arith
positive no.Size = omega arith
positive no.Trailer = omega arith
positive no.Line = omega arith
positive no.Strip = omega arith
positive no.Sheet = omega arith

pub not_none : (refusal : Refusal) → number refusal ≡ 0 → ⊥
not_none refusal e = omega (arith, positive refusal)

-- A call that answers nothing else is settled by the number.
pub number_settles : (a b : Result Unit Refusal) → number_of a ≡ number_of b → a ≡ b
number_settles (Ok x) (Ok y) e = refl
number_settles (Ok x) (Err b) e = absurd (omega (arith, positive b))
number_settles (Err a) (Ok y) e = absurd (omega (arith, positive a))
number_settles (Err a) (Err b) e = ap Err (number_tells a b e)
