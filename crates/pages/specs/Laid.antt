-- Words laid over each other, eight at a time: the greatest of each kind is 0 only if all are.
-- It is how the code tests that words are 0: no promise of the book's calls speaks of it.
use Rattle.std.specs.Prelude.{set, replicate, ℕ, zero, suc, ◌+◌, ◌<◌, max, Bool, true, false, ◌&&◌, List, [], ◌∷◌, ◌++◌, ◌≡◌, refl, eqb, length, get_or, take, drop}
use Rattle.std.proofs.Math.Bool.{and-true, and_assoc}
use Rattle.std.proofs.Common.{add-one, sym, ap, ap₂, ◌∙◌, arith, eqb-true, eq-eqb}
use Rattle.ground.specs.Tests.{both, joint, same_test}
use Rattle.pages.specs.Layout.{words_of_box, words_of_entry, after_gust}
use Rattle.pages.specs.declared.Entry.{Entry}
use Rattle.pages.specs.Words.{every, all_zero}
use Rattle.pages.specs.declared.words.Laid.{Laid}

abbrev pub words_laid : Laid → List ℕ
words_laid x = x.words

abbrev pub nothing_laid : Laid
nothing_laid = record { words = replicate 8 0 }

-- The greater of each two words of two lists; where one has no more, the other's stay.
unfoldable pub greater_words : List ℕ → List ℕ → List ℕ
greater_words xs [] = xs
greater_words [] (y ∷ ys) = y ∷ ys
greater_words (x ∷ xs) (y ∷ ys) = max x y ∷ greater_words xs ys

-- A row of eight words laid over what was laid there before: the greater of each two stays.
unfoldable pub laid_over : Laid → List ℕ → Laid
laid_over x row = record { words = greater_words x.words row }

-- What stands in an entry after its gust: fourteen words, in two rows of eight that share two.
abbrev pub rest_over : Laid → Entry → Laid
rest_over x e = laid_over (laid_over x (take 8 (drop 7 (words_of_entry e)))) (take 8 (drop 13 (words_of_entry e)))

-- the greater of two words is 0 only if both are; so it is for lists of words
zero_both : (a b : ℕ) → eqb (max a b) 0 ≡ (eqb a 0 && eqb b 0)
zero_both a b =
    same_test (eqb (max a b) 0) (eqb a 0 && eqb b 0)
    (λ e. let h = eqb-true (max a b) 0 e in joint (eqb a 0) (eqb b 0) (eq-eqb a 0 (omega arith)) (eq-eqb b 0 (omega arith)))
    (λ e. let h = both (eqb a 0) (eqb b 0) e in let p = eqb-true a 0 h.0 in let q = eqb-true b 0 h.1 in eq-eqb (max a b) 0 (omega arith))

crossed : (a b c d : Bool) → (a && b && (c && d)) ≡ (a && c && (b && d))
crossed true b true d = refl
crossed true true false d = refl
crossed true false false d = refl
crossed false b c d = refl

laid_zero : (xs ys : List ℕ) → all_zero (greater_words xs ys) ≡ (all_zero xs && all_zero ys)
unfolding greater_words every
laid_zero xs [] = sym (and-true (all_zero xs))
laid_zero [] (y ∷ ys) = refl
laid_zero (x ∷ xs) (y ∷ ys) =
    ap₂ (λ (b c : Bool). b && c) (zero_both x y) (laid_zero xs ys) ∙ crossed (eqb x 0) (eqb y 0) (all_zero xs) (all_zero ys)

-- one more word laid
laid_one : (w v : List ℕ) (i : ℕ) → i < length w → i < length v
    → set (greater_words w (take i v)) i (max (get_or (greater_words w (take i v)) i 0) (get_or v i 0)) ≡ greater_words w (take (suc i) v)
unfolding greater_words
laid_one [] v i h k = absurd (omega arith)
laid_one (x ∷ w) [] i h k = absurd (omega arith)
laid_one (x ∷ w) (y ∷ v) zero h k = refl
laid_one (x ∷ w) (y ∷ v) (suc i) h k = ap (λ l. max x y ∷ l) (laid_one w v i (omega arith) (omega arith))

pub laid_more : (l w row : List ℕ) (i : ℕ) → i < length w → i < length row → l ≡ greater_words w (take i row)
    → set l i (max (get_or l i 0) (get_or row i 0)) ≡ greater_words w (take (i + 1) row)
laid_more l w row i h k e = rw (e, add-one i) (laid_one w row i h k)

-- fourteen words are 0 exactly if both rows are
zero_append : (v w : List ℕ) → all_zero (v ++ w) ≡ (all_zero v && all_zero w)
unfolding every
zero_append [] w = refl
zero_append (x ∷ v) w = ap (λ b. eqb x 0 && b) (zero_append v w) ∙ sym (and_assoc (eqb x 0) (all_zero v) (all_zero w))

shared : (a b c : Bool) → (a && b && (b && c)) ≡ (a && (b && c))
shared true true c = refl
shared true false c = refl
shared false b c = refl

two_rows : (v s w : List ℕ) → (all_zero (v ++ s) && all_zero (s ++ w)) ≡ all_zero (v ++ (s ++ w))
two_rows v s w =
    ap₂ (λ (b c : Bool). b && c) (zero_append v s) (zero_append s w)
    ∙ shared (all_zero v) (all_zero s) (all_zero w)
    ∙ sym (zero_append v (s ++ w) ∙ ap (λ b. all_zero v && b) (zero_append s w))

-- all that was laid is 0 exactly if it was before, and what stands after the gust is too
pub rest_laid : (x r : Laid) (e : Entry) → r ≡ rest_over x e → all_zero (words_laid r) ≡ (all_zero (words_laid x) && all_zero (after_gust e))
unfolding laid_over words_of_entry words_of_box
rest_laid x r e p =
    let rest = after_gust e in
    ap (λ z. all_zero (words_laid z)) p
    ∙ laid_zero (greater_words x.words (take 8 rest)) (drop 6 rest)
    ∙ ap (λ b. b && all_zero (drop 6 rest)) (laid_zero x.words (take 8 rest))
    ∙ and_assoc (all_zero x.words) (all_zero (take 8 rest)) (all_zero (drop 6 rest))
    ∙ ap (λ b. all_zero x.words && b) (two_rows (take 6 rest) (take 2 (drop 6 rest)) (drop 8 rest))

pub nothing_laid_lem : (x : Laid) → x ≡ nothing_laid → all_zero (words_laid x) ≡ true
unfolding every
nothing_laid_lem x e = ap (λ y. all_zero (words_laid y)) e ∙ refl
