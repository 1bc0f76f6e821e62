-- Laws of free pages and of the empty book.
use Rattle.std.specs.Prelude.{Some, None, Bool, true, false, cond, List, [], ◌∷◌, ◌++◌, ◌≡◌, refl, ℕ, zero, suc, ◌+◌, ◌*◌, ◌-◌, ◌≤◌, ◌<◌, leb, eqb, length, get_or, drop, set, replicate}
use Rattle.std.specs.Int.{from_bool}
use Rattle.std.proofs.Common.{sym, ap, ◌∙◌, subst, not-suc-le-zero, le_of_suc-le-suc, le_refl, add-one, arith, eq-eqb, ne_eqb, eqb-true, le-leb, leb-true, length-set, drop_of_length-le, drop-cons, drop_at}
use Rattle.std.proofs.lemmas.List.{length-replicate, replicate-append-replicate}
use Rattle.ground.specs.Tests.{same_test}
use Rattle.pages.specs.declared.Page.{Page}
use Rattle.pages.specs.Layout.{page_words, pages_in, table_fits, page_of, level_at, words_of_entries, words_of_entry, words_of_box, words_of_page, cut_pages, pages_of, free_page}
use Rattle.pages.specs.Facts.{fitting}
use Rattle.pages.specs.LayoutLaws.{fits_alike, level_in, page_read, pages_length, pages_at, free_words}
use Rattle.pages.specs.Free.{is_free, lowest_from, lowest_free, count_free, free_count, empty_leaf, empty_table}

-- the lowest free page: it is free, and no earlier one is
pub record LowestFree (xs : List Page) (p : ℕ) : Type 0 where
  pub within : p < length xs
  pub free : is_free (get_or xs p free_page) ≡ true
  pub earlier : (q : ℕ) → q < p → is_free (get_or xs q free_page) ≡ false

not_no_page : (n : ℕ) → None ≡ Some n → ⊥
not_no_page n e = let z : ◌≡◌ {A = ℕ} 0 1 = cc in omega arith

same_page : (m n : ℕ) → Some m ≡ Some n → m ≡ n
same_page m n e = cc

first_free : (x : Page) (xs : List Page) → is_free x ≡ true → LowestFree (x ∷ xs) 0
first_free x xs e =
    let none : (q : ℕ) → q < 0 → is_free (get_or (x ∷ xs) q free_page) ≡ false = λ q h. absurd (not-suc-le-zero h) in
    record { within = omega arith; free = e; earlier = none }

later_free : (x : Page) (xs : List Page) (p : ℕ) → is_free x ≡ false → LowestFree xs p → LowestFree (x ∷ xs) (suc p)
later_free x xs p e h = record { within = omega (arith, h.within); free = h.free; earlier = before }
  where
    before : (q : ℕ) → q < suc p → is_free (get_or (x ∷ xs) q free_page) ≡ false
    before zero l = e
    before (suc q) l = h.earlier q (le_of_suc-le-suc l)

lowest_from_lem : (xs : List Page) (n r : ℕ) → lowest_from n xs ≡ Some r → (p : ℕ) × (r ≡ n + p) × LowestFree xs p
unfolding lowest_from
lowest_from_lem [] n r e = absurd (not_no_page r e)
lowest_from_lem (x ∷ xs) n r e = by_test (is_free x) refl e (lowest_from_lem xs (suc n) r)
  where
    by_test : (t : Bool) → is_free x ≡ t → cond t (Some n) (lowest_from (suc n) xs) ≡ Some r
        → (lowest_from (suc n) xs ≡ Some r → (p : ℕ) × (r ≡ suc n + p) × LowestFree xs p) → (p : ℕ) × (r ≡ n + p) × LowestFree (x ∷ xs) p
    by_test true f q rest = let m = same_page n r q in (0, omega arith, first_free x xs f)
    by_test false f q rest = let h = rest q in (suc h.0, omega (arith, h.1), later_free x xs h.0 f h.2)

pub lowest_at : (xs : List Page) (p : ℕ) → lowest_free xs ≡ Some p → LowestFree xs p
lowest_at xs p e =
    let h = lowest_from_lem xs 0 p e in
    let q : h.0 ≡ p = omega (arith, h.1) in
    subst (λ (n : ℕ). LowestFree xs n) q h.2

lowest_from_so : (xs : List Page) (p n : ℕ) → LowestFree xs p → lowest_from n xs ≡ Some (n + p)
unfolding lowest_from
lowest_from_so [] p n h = absurd (not-suc-le-zero h.within)
lowest_from_so (x ∷ xs) zero n h =
    let z : n ≡ n + 0 = omega arith in
    ap (λ (t : Bool). cond t (Some n) (lowest_from (suc n) xs)) h.free ∙ ap Some z
lowest_from_so (x ∷ xs) (suc p) n h =
    let z : suc n + p ≡ n + suc p = omega arith in
    let rest : (q : ℕ) → q < p → is_free (get_or xs q free_page) ≡ false = λ q l. h.earlier (suc q) (omega arith) in
    ap (λ (t : Bool). cond t (Some n) (lowest_from (suc n) xs)) (h.earlier 0 (omega arith))
    ∙ lowest_from_so xs p (suc n) (record { within = omega (arith, h.within); free = h.free; earlier = rest })
    ∙ ap Some z

pub lowest_so : (xs : List Page) (p : ℕ) → LowestFree xs p → lowest_free xs ≡ Some p
lowest_so xs p h = let z : 0 + p ≡ p = omega arith in lowest_from_so xs p 0 h ∙ ap Some z

-- there is one if and only if some page is free
lowest_from_found : (xs : List Page) (n : ℕ) → 0 < free_count xs → (p : ℕ) × (lowest_from n xs ≡ Some p)
unfolding lowest_from free_count
lowest_from_found [] n h = absurd (not-suc-le-zero h)
lowest_from_found (x ∷ xs) n h = by_test (is_free x) h (lowest_from_found xs (suc n))
  where
    by_test : (t : Bool) → 0 < cond t 1 0 + free_count xs → (0 < free_count xs → (p : ℕ) × (lowest_from (suc n) xs ≡ Some p)) → (p : ℕ) × (cond t (Some n) (lowest_from (suc n) xs) ≡ Some p)
    by_test true k rest = (n, refl)
    by_test false k rest = rest (omega arith)

pub lowest_found : (xs : List Page) → 0 < free_count xs → (p : ℕ) × (lowest_free xs ≡ Some p)
lowest_found xs h = lowest_from_found xs 0 h

lowest_from_none : (xs : List Page) (n : ℕ) → lowest_from n xs ≡ None → free_count xs ≡ 0
unfolding lowest_from free_count
lowest_from_none [] n e = refl
lowest_from_none (x ∷ xs) n e = by_test (is_free x) e (lowest_from_none xs (suc n))
  where
    by_test : (t : Bool) → cond t (Some n) (lowest_from (suc n) xs) ≡ None → (lowest_from (suc n) xs ≡ None → free_count xs ≡ 0) → cond t 1 0 + free_count xs ≡ 0
    by_test true q rest = absurd (not_no_page n (sym q))
    by_test false q rest = omega (arith, rest q)

pub lowest_none : (xs : List Page) → lowest_free xs ≡ None → free_count xs ≡ 0
lowest_none xs e = lowest_from_none xs 0 e

-- another page: what it was and what it is counts
pub free_set : (xs : List Page) (p : ℕ) (x : Page) → p < length xs → free_count (set xs p x) + count_free (get_or xs p free_page) ≡ free_count xs + count_free x
unfolding free_count
free_set [] p x h = absurd (not-suc-le-zero h)
free_set (y ∷ xs) zero x h = omega arith
free_set (y ∷ xs) (suc p) x h = omega (arith, free_set xs p x (le_of_suc-le-suc h))

pub count_free_most : (x : Page) → count_free x ≤ 1
count_free_most x = by_test (is_free x)
  where
    by_test : (t : Bool) → cond t 1 0 ≤ 1
    by_test true = omega arith
    by_test false = omega arith

pub free_most : (xs : List Page) → free_count xs ≤ length xs
unfolding free_count
free_most [] = omega arith
free_most (x ∷ xs) = omega (arith, count_free_most x, free_most xs)

pub free_drop : (xs : List Page) (n : ℕ) → free_count (drop n xs) ≤ free_count xs
unfolding free_count
free_drop [] n = omega (arith, ap free_count (drop_of_length-le [] {i = n} (omega arith)))
free_drop (x ∷ xs) zero = le_refl (free_count (x ∷ xs))
free_drop (x ∷ xs) (suc n) = omega (arith, free_drop xs n)

-- a page is free if its level is 0, where that lies
pub level_free : (t : List ℕ) (p : ℕ) → p < pages_in t → is_free (get_or (pages_of t) p free_page) ≡ eqb (level_at t p) 0
level_free t p h = ap is_free (pages_at t p h) ∙ ap (λ (n : ℕ). eqb n 0) (level_in t p)

pages_from_lem : (t : List ℕ) (p : ℕ) → p < pages_in t → drop p (pages_of t) ≡ get_or (pages_of t) p free_page ∷ drop (suc p) (pages_of t)
pages_from_lem t p h = drop-cons (pages_of t) p free_page (omega (arith, pages_length t))

pub lowest_here : (t : List ℕ) (p : ℕ) → p < pages_in t → level_at t p ≡ 0 → lowest_from p (drop p (pages_of t)) ≡ Some p
unfolding lowest_from
lowest_here t p h e =
    rw (pages_from_lem t p h) (ap (λ (b : Bool). cond b (Some p) (lowest_from (suc p) (drop (suc p) (pages_of t)))) (level_free t p h ∙ eq-eqb (level_at t p) 0 e))

pub lowest_on : (t : List ℕ) (p : ℕ) → p < pages_in t → (level_at t p ≡ 0 → ⊥) → lowest_from p (drop p (pages_of t)) ≡ lowest_from (p + 1) (drop (p + 1) (pages_of t))
unfolding lowest_from
lowest_on t p h e =
    rw (add-one p, pages_from_lem t p h) (ap (λ (b : Bool). cond b (Some p) (lowest_from (suc p) (drop (suc p) (pages_of t)))) (level_free t p h ∙ ne_eqb (level_at t p) 0 e))

pub lowest_end : (t : List ℕ) (p : ℕ) → pages_in t ≤ p → lowest_from p (drop p (pages_of t)) ≡ None
unfolding lowest_from
lowest_end t p h = rw (drop_of_length-le (pages_of t) {i = p} (omega (arith, pages_length t))) refl

-- where no page below n is free, the search may begin there
abbrev pub NoneFree : List Page → ℕ → Type 0
NoneFree xs n = (k : ℕ) → k < n → (k < length xs) × (is_free (get_or xs k free_page) ≡ false)

pub lowest_past : (xs : List Page) (n : ℕ) → NoneFree xs n → lowest_from n (drop n xs) ≡ lowest_free xs
unfolding lowest_from
lowest_past xs zero h = refl
lowest_past xs (suc n) h =
    let here = h n (omega arith) in
    sym (rw (drop-cons xs n free_page here.0) (ap (λ (b : Bool). cond b (Some n) (lowest_from (suc n) (drop (suc n) xs))) here.1))
    ∙ lowest_past xs n (λ k l. h k (omega arith))

-- counting from the high end
one_or_none : (b : Bool) → from_bool b ≡ cond b 1 0
one_or_none true = refl
one_or_none false = refl

pub count_down : (t : List ℕ) (p left freed n : ℕ) → 0 < p → p ≤ pages_in t → 0 < left → freed ≡ from_bool (eqb (level_at t (p - 1)) 0)
    → left + free_count (drop p (pages_of t)) ≡ n → left - freed + free_count (drop (p - 1) (pages_of t)) ≡ n
unfolding free_count
count_down t p left freed n o h l e k =
    let z : suc (p - 1) ≡ p = omega arith in
    let f : count_free (get_or (pages_of t) (p - 1) free_page) ≡ from_bool (eqb (level_at t (p - 1)) 0) = ap (λ (b : Bool). cond b 1 0) (level_free t (p - 1) (omega arith)) ∙ sym (one_or_none (eqb (level_at t (p - 1)) 0)) in
    let c : free_count (drop (p - 1) (pages_of t)) ≡ count_free (get_or (pages_of t) (p - 1) free_page) + free_count (drop p (pages_of t)) =
    ap free_count (pages_from_lem t (p - 1) (omega arith)) ∙ ap (λ (m : ℕ). count_free (get_or (pages_of t) (p - 1) free_page) + free_count (drop m (pages_of t))) z in
    omega (arith, count_free_most (get_or (pages_of t) (p - 1) free_page))

pub enough : (t : List ℕ) (p left n : ℕ) → left ≡ 0 → left + free_count (drop p (pages_of t)) ≡ n → true ≡ leb n (free_count (pages_of t))
enough t p left n z e = sym (le-leb n (free_count (pages_of t)) (omega (arith, free_drop (pages_of t) p)))

pub counted : (t : List ℕ) (p left n : ℕ) → p ≡ 0 → left + free_count (drop p (pages_of t)) ≡ n → eqb left 0 ≡ leb n (free_count (pages_of t))
counted t p left n z e =
    let k : free_count (drop p (pages_of t)) ≡ free_count (pages_of t) = ap (λ (m : ℕ). free_count (drop m (pages_of t))) z in
    same_test (eqb left 0) (leb n (free_count (pages_of t)))
    (λ q. le-leb n (free_count (pages_of t)) (omega (arith, eqb-true left 0 q)))
    (λ q. eq-eqb left 0 (omega (arith, leb-true n (free_count (pages_of t)) q)))

pub count_start : (t : List ℕ) (n : ℕ) → n + free_count (drop (pages_in t) (pages_of t)) ≡ n
unfolding free_count
count_start t n = omega (arith, ap free_count (drop_of_length-le (pages_of t) {i = pages_in t} (omega (arith, pages_length t))))

-- the empty book
pub empty_length : (t : List ℕ) → length (empty_table t) ≡ length t
unfolding empty_table
empty_length t = length-set (replicate (length t) 0) 0 1 ∙ length-replicate (length t) 0

zeros_cut : (n : ℕ) → cut_pages n (replicate (n * page_words) 0) ≡ replicate n free_page
unfolding cut_pages
zeros_cut zero = refl
zeros_cut (suc n) =
    let e : suc n * page_words ≡ page_words + n * page_words = omega arith in
    let w : replicate (suc n * page_words) 0 ≡ words_of_page free_page ++ replicate (n * page_words) 0 =
    ap (λ (m : ℕ). replicate m 0) e ∙ sym (replicate-append-replicate page_words (n * page_words) 0) ∙ ap (λ (l : List ℕ). l ++ replicate (n * page_words) 0) (sym free_words) in
    let d : drop page_words (words_of_page free_page ++ replicate (n * page_words) 0) ≡ replicate (n * page_words) 0 = drop_at (words_of_page free_page) (replicate (n * page_words) 0) page_words (ap length free_words ∙ length-replicate {A = ℕ} page_words 0) in
    ap (λ (l : List ℕ). page_of l ∷ cut_pages n (drop page_words l)) w
    ∙ ap (λ (x : Page). x ∷ cut_pages n (drop page_words (words_of_page free_page ++ replicate (n * page_words) 0))) (page_read free_page (replicate (n * page_words) 0) refl)
    ∙ ap (λ (l : List ℕ). free_page ∷ cut_pages n l) d
    ∙ ap (λ (l : List Page). free_page ∷ l) (zeros_cut n)

leaf_cut : (n : ℕ) → cut_pages (suc n) (set (replicate (page_words + n * page_words) 0) 0 1) ≡ empty_leaf ∷ replicate n free_page
unfolding cut_pages words_of_page words_of_entries words_of_entry words_of_box
leaf_cut n =
    let w : set (replicate (page_words + n * page_words) 0) 0 1 ≡ words_of_page empty_leaf ++ replicate (n * page_words) 0 =
    ap (λ (l : List ℕ). set l 0 1) (sym (replicate-append-replicate page_words (n * page_words) 0)) in
    let d : drop page_words (words_of_page empty_leaf ++ replicate (n * page_words) 0) ≡ replicate (n * page_words) 0 = refl in
    ap (λ (l : List ℕ). page_of l ∷ cut_pages n (drop page_words l)) w
    ∙ ap (λ (x : Page). x ∷ cut_pages n (drop page_words (words_of_page empty_leaf ++ replicate (n * page_words) 0))) (page_read empty_leaf (replicate (n * page_words) 0) refl)
    ∙ ap (λ (l : List ℕ). empty_leaf ∷ cut_pages n l) d
    ∙ ap (λ (l : List Page). empty_leaf ∷ l) (zeros_cut n)

pub empty_pages_lem : (t : List ℕ) → table_fits t ≡ true → pages_of (empty_table t) ≡ empty_leaf ∷ replicate (pages_in t - 1) free_page
unfolding pages_of empty_table
empty_pages_lem t e =
    let f = fitting t e in
    let m : pages_in t ≡ suc (pages_in t - 1) = omega arith in
    let l : length t ≡ page_words + (pages_in t - 1) * page_words = omega arith in
    let k : pages_in (empty_table t) ≡ suc (pages_in t - 1) = omega (arith, empty_length t) in
    ap (λ (n : ℕ). cut_pages n (set (replicate (length t) 0) 0 1)) k
    ∙ ap (λ (n : ℕ). cut_pages (suc (pages_in t - 1)) (set (replicate n 0) 0 1)) l
    ∙ leaf_cut (pages_in t - 1)

pub empty_fits : (t : List ℕ) → table_fits (empty_table t) ≡ table_fits t
empty_fits t = fits_alike t (empty_table t) (empty_length t)

free_all_lem : (n : ℕ) → free_count (replicate n free_page) ≡ n
unfolding free_count
free_all_lem zero = refl
free_all_lem (suc n) = omega (arith, free_all_lem n)

pub empty_free : (t : List ℕ) → table_fits t ≡ true → free_count (pages_of (empty_table t)) ≡ pages_in t - 1
unfolding free_count
empty_free t e = ap free_count (empty_pages_lem t e) ∙ (omega (arith, free_all_lem (pages_in t - 1)))

-- what clearing leaves
pub cleared : (s t : List ℕ) → s ≡ replicate (length t) 0 → set s 0 1 ≡ empty_table t
unfolding empty_table
cleared s t e = ap (λ (l : List ℕ). set l 0 1) e

pub cleared_none : (s t : List ℕ) → length s ≤ 0 → s ≡ replicate (length t) 0 → s ≡ empty_table t
unfolding empty_table
cleared_none s t h e =
    let n : length t ≡ 0 = omega (arith, ap length e ∙ length-replicate (length t) 0) in
    e ∙ ap (λ (m : ℕ). replicate m 0) n ∙ sym (ap (λ (m : ℕ). set (replicate m 0) 0 1) n)
