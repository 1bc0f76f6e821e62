-- Laws of the tests of words, and where the words of a page lie.
use Rattle.std.specs.Prelude.{fold, ℕ, Bool, true, ◌&&◌, List, [], ◌∷◌, ◌++◌, ◌≡◌, refl, eqb, length}
use Rattle.std.proofs.Math.Bool.{and-true, and_assoc}
use Rattle.std.proofs.Common.{sym, ap, ◌∙◌, arith, eqb-true}
use Rattle.ground.specs.Tests.{both}
use Rattle.pages.specs.Layout.{words_of_range, words_of_box, words_of_entry}
use Rattle.ground.specs.declared.boxes.Range.{Range}
use Rattle.ground.specs.declared.boxes.Box.{Box}
use Rattle.pages.specs.declared.Entry.{Entry}
use Rattle.pages.specs.Words.{every, same_words}

-- a test carried through a list, with no early exit
pub every_carried : {A : Type 0} (f : A → Bool) (b : Bool) (xs : List A) → fold (λ c x. c && f x) b xs ≡ (b && every f xs)
unfolding every
every_carried f b [] = sym (and-true b)
every_carried f b (x ∷ xs) = every_carried f (b && f x) xs ∙ and_assoc b (f x) (every f xs)

-- two lists of words are the same exactly if the test says so
pub same_words_lem : (v w : List ℕ) → same_words v w ≡ true → v ≡ w
unfolding same_words
same_words_lem [] [] e = refl
same_words_lem [] (y ∷ ys) e = let z : ◌≡◌ {A = ℕ} 0 1 = cc in absurd (omega arith)
same_words_lem (x ∷ xs) [] e = let z : ◌≡◌ {A = ℕ} 0 1 = cc in absurd (omega arith)
same_words_lem (x ∷ xs) (y ∷ ys) e =
    let h = both (eqb x y) (same_words xs ys) e in
    let p = eqb-true x y h.0 in
    let q = same_words_lem xs ys h.1 in
    λ i. p i ∷ q i

-- lists of equal length joined
pub same_append : (v v' w w' : List ℕ) → length v ≡ length v' → same_words (v ++ w) (v' ++ w') ≡ (same_words v v' && same_words w w')
unfolding same_words
same_append [] [] w w' e = refl
same_append [] (y ∷ ys) w w' e = absurd (omega arith)
same_append (x ∷ xs) [] w w' e = absurd (omega arith)
same_append (x ∷ xs) (y ∷ ys) w w' e = rw (same_append xs ys w w' (omega arith)) (sym (and_assoc (eqb x y) (same_words xs ys) (same_words w w')))

-- the tests of an entry's words, part by part
pub same_range_is : (a b : Range) → (eqb a.low b.low && eqb a.high b.high) ≡ same_words (words_of_range a) (words_of_range b)
unfolding same_words
same_range_is a b = rw (and-true (eqb a.high b.high))

pub same_box_is : (a b : Box) → (same_words (words_of_range a.east) (words_of_range b.east) && (same_words (words_of_range a.north) (words_of_range b.north) && same_words (words_of_range a.day) (words_of_range b.day))) ≡ same_words (words_of_box a) (words_of_box b)
unfolding words_of_box
same_box_is a b =
    sym (same_append (words_of_range a.east) (words_of_range b.east) (words_of_range a.north ++ words_of_range a.day) (words_of_range b.north ++ words_of_range b.day) refl
    ∙ ap (λ t. same_words (words_of_range a.east) (words_of_range b.east) && t) (same_append (words_of_range a.north) (words_of_range b.north) (words_of_range a.day) (words_of_range b.day) refl))

-- entries are the same exactly if their words are
abbrev same_range : Range → Range → Bool
same_range a b = eqb a.low b.low && eqb a.high b.high

abbrev same_box : Box → Box → Bool
same_box a b = same_range a.east b.east && (same_range a.north b.north && same_range a.day b.day)

pub same_entry_is : (a b : Entry)
    → (same_box a.place b.place && (eqb a.gust b.gust && (eqb a.weakest b.weakest && (eqb a.child b.child && (same_box a.strongest b.strongest && same_box a.union b.union)))))
    ≡ same_words (words_of_entry a) (words_of_entry b)
unfolding words_of_entry words_of_box same_words
same_entry_is a b = simp (and_assoc, and-true)
