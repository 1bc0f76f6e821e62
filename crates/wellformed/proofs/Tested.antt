-- What a fold of a test over the first n numbers comes to: the test of every number below n, and of the n entries in use of a page.
use Rattle.std.specs.Prelude.{ℕ, ◌+◌, ◌<◌, zero, suc, Bool, ◌&&◌, List, [], ◌∷◌, ◌++◌, map, ◌≡◌, refl, length, get_or}
use Rattle.std.proofs.Common.{sym, ap, ap₂, ◌∙◌, arith}
use Rattle.std.proofs.Math.Bool.{and-true, and_assoc}
use Rattle.std.specs.List.{range_with_len}
use Rattle.std.proofs.lemmas.List.FromFn.{fill_by_all}
use Rattle.pages.specs.Layout.{zero_entry}
use Rattle.pages.specs.Summary.{in_use}
use Rattle.pages.specs.ViewLaws.{used_entry}
use Rattle.pages.specs.Words.{every}
use Rattle.pages.specs.declared.Entry.{Entry}
use Rattle.pages.specs.declared.Page.{Page}
use Rattle.wellformed.specs.WellFormed.{every_below}

-- one more element is tested
every_more : {A : Type 0} (f : A → Bool) (xs : List A) (x : A) → every f (xs ++ (x ∷ [])) ≡ (every f xs && f x)
unfolding every
every_more f [] x = and-true (f x)
every_more f (y ∷ xs) x = ap (λ b. f y && b) (every_more f xs x) ∙ sym (and_assoc (f y) (every f xs) (f x))

every_map : {A B : Type 0} (f : B → Bool) (g : A → B) (xs : List A) → every (λ x. f (g x)) xs ≡ every f (map g xs)
unfolding every
every_map f g [] = refl
every_map f g (x ∷ xs) = ap (λ b. f (g x) && b) (every_map f g xs)

-- the entries in use are tested one by one
pub every_used : (f : Entry → Bool) (x : Page) (n : ℕ) → n ≡ length (in_use x) → every (λ i. f (get_or x.entries i zero_entry)) (range_with_len 0 n) ≡ every f (in_use x)
every_used f x n e =
    let nth = λ (i : ℕ). get_or x.entries i zero_entry in
    every_map f nth (range_with_len 0 n)
    ∙ ap (every f) (sym (fill_by_all nth (in_use x) n zero_entry (sym e) (λ i p. used_entry x i (omega arith))))

one_more : (a n : ℕ) → range_with_len a (suc n) ≡ range_with_len a n ++ ((a + n) ∷ [])
one_more a zero = ap (λ (k : ℕ). k ∷ []) (omega arith)
one_more a (suc n) = ap (λ (ks : List ℕ). a ∷ ks) (one_more (a + 1) n ∙ ap (λ (k : ℕ). range_with_len (a + 1) n ++ (k ∷ [])) (omega arith))

pub every_range : (f g : ℕ → Bool) (n : ℕ) → ((i : ℕ) → i < n → f i ≡ g i) → every f (range_with_len 0 n) ≡ every_below g n
unfolding every every_below
every_range f g zero h = refl
every_range f g (suc n) h =
    let e : 0 + n ≡ n = omega arith in
    ap (every f) (one_more 0 n ∙ ap (λ (k : ℕ). range_with_len 0 n ++ (k ∷ [])) e)
    ∙ every_more f (range_with_len 0 n) n
    ∙ ap₂ (λ x y. x && y) (every_range f g n (λ i p. h i (omega arith))) (h n (omega arith))
