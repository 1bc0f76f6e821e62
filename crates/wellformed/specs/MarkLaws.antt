-- Laws of the marks: each page's mark is how often it was named, up to twice.
use Rattle.std.specs.Prelude.{ℕ, zero, suc, ◌+◌, ◌≤◌, ◌<◌, min, Bool, true, false, ◌&&◌, ◌||◌, cond, List, [], ◌∷◌, map, ◌≡◌, refl, eqb, length, get_or, set, drop, replicate}
use Rattle.std.proofs.Common.{ap, ap₂, ◌∙◌, add-one, arith, eq-eqb, eqb-true, le-leb, lit≤, length-set, drop_of_length-le, get_or-set_same, get_or-set_other}
use Rattle.std.proofs.Math.Path.{sym}
use Rattle.std.proofs.lemmas.Bool.{eqb-false, lt-leb}
use Rattle.std.proofs.lemmas.List.{length-replicate, get_or-replicate}
use Rattle.std.proofs.Math.Seq.{drop-cons}
use Rattle.ground.specs.Sums.{total}
use Rattle.ground.specs.Tests.{same_test}
use Rattle.pages.specs.Layout.{pages_in, pages_of, page_at, level_at, zero_entry}
use Rattle.pages.specs.LayoutLaws.{pages_length, pages_at, level_in}
use Rattle.pages.specs.Summary.{in_use}
use Rattle.pages.specs.declared.Entry.{Entry}
use Rattle.pages.specs.declared.Page.{Page}
use Rattle.pages.specs.declared.Small.{Small}
use Rattle.wellformed.specs.Flat.{names, named, named_once}
use Rattle.wellformed.specs.WellFormed.{every_below, times, page, child_of, children}

-- one more mark for page c, up to two; and for each of a list
unfoldable pub mark : List ℕ → ℕ → List ℕ
mark m c = set m c (min 2 (get_or m c 0 + 1))

unfoldable pub marked : List ℕ → List ℕ → List ℕ
marked m [] = m
marked m (c ∷ cs) = marked (mark m c) cs

pub marked_length : (m cs : List ℕ) → length (marked m cs) ≡ length m
unfolding marked mark
marked_length m [] = refl
marked_length m (c ∷ cs) = marked_length (mark m c) cs ∙ length-set m c (min 2 (get_or m c 0 + 1))

-- past the end nothing is marked
pub mark_outside : (m : List ℕ) (c : ℕ) → length m ≤ c → m ≡ mark m c
unfolding mark
mark_outside [] c p = refl
mark_outside (x ∷ m) zero p = absurd (omega arith)
mark_outside (x ∷ m) (suc c) p = ap (λ l. x ∷ l) (mark_outside m c (omega arith))

mark_counts : (m : List ℕ) (c x : ℕ) → x < length m → get_or m x 0 ≤ 2 → get_or (mark m c) x 0 ≡ min 2 (get_or m x 0 + cond (eqb x c) 1 0)
unfolding mark
mark_counts m c x p q = by_test (eqb x c) refl
  where
    by_test : (b : Bool) → eqb x c ≡ b → get_or (set m c (min 2 (get_or m c 0 + 1))) x 0 ≡ min 2 (get_or m x 0 + cond (eqb x c) 1 0)
    by_test true e = let d = eqb-true x c e in rw (e, ← d) (get_or-set_same m x (min 2 (get_or m x 0 + 1)) 0 p)
    by_test false e = rw e (get_or-set_other m c x (min 2 (get_or m c 0 + 1)) 0 (eqb-false x c e) ∙ omega arith)

pub mark_length : (m : List ℕ) (c : ℕ) → length (mark m c) ≡ length m
unfolding mark
mark_length m c = length-set m c (min 2 (get_or m c 0 + 1))

pub marked_counts : (m cs : List ℕ) (x : ℕ) → x < length m → get_or m x 0 ≤ 2 → get_or (marked m cs) x 0 ≡ min 2 (get_or m x 0 + times x cs)
unfolding marked times
marked_counts m [] x p q = omega arith
marked_counts m (c ∷ cs) x p q =
    let k = mark_counts m c x p q in
    let l = mark_length m c in
    let h = marked_counts (mark m c) cs x (omega arith) (omega arith) in
    omega arith

-- after the first n pages each mark is how often they name the page, up to twice
abbrev pub CountedTo : List Page → ℕ → List ℕ → Type 0
CountedTo ps n m = (x : ℕ) → x < length m → get_or m x 0 ≡ min 2 (total (λ q. names ps q x) n)

abbrev pub Counted : List Page → List ℕ → Type 0
Counted ps m = (x : ℕ) → x < length ps → get_or m x 0 ≡ min 2 (named ps x)

pub counted_none : (ps : List Page) (k : ℕ) (m : List ℕ) → m ≡ replicate k 0 → CountedTo ps 0 m
unfolding total
counted_none ps k m e x p = ap (λ l. get_or l x 0) e ∙ get_or-replicate k x 0 0 (omega (arith, length-replicate {A = ℕ} k 0, ap length e))

pub counted_more : (t : List ℕ) (p : ℕ) (m m' : List ℕ) → p < pages_in t → CountedTo (pages_of t) p m → m' ≡ marked m (children (page_at t p)) → CountedTo (pages_of t) (p + 1) m'
unfolding total names
counted_more t p m m' inside h e x q =
    let l = ap length e ∙ marked_length m (children (page_at t p)) in
    let g : get_or m x 0 ≡ min 2 (total (λ r. names (pages_of t) r x) p) = h x (omega arith) in
    let k = ap (λ w. get_or w x 0) e ∙ marked_counts m (children (page_at t p)) x (omega arith) (omega arith) in
    let n = ap (λ y. times x (children y)) (pages_at t p inside) in
    rw add-one (omega arith)

pub counted_all : (t m : List ℕ) (n : ℕ) → n ≡ pages_in t → pages_in t ≤ length m → CountedTo (pages_of t) n m → Counted (pages_of t) m
unfolding named
counted_all t m n e p h x q =
    let l = pages_length t in
    h x (omega arith) ∙ ap (λ k. min 2 (total (λ r. names (pages_of t) r x) k)) (e ∙ sym l)

-- the mark that is due to a page, and that the test of the marks is the test of the names
abbrev pub due_mark : List ℕ → Small → ℕ → ℕ
due_mark t s p = cond (eqb (level_at t p) 0 || eqb p s.root) 0 1

up_to_two : (n k : ℕ) → k ≤ 1 → eqb (min 2 n) k ≡ eqb n k
up_to_two n k p =
    same_test (eqb (min 2 n) k) (eqb n k)
    (λ e. let d = eqb-true (min 2 n) k e in eq-eqb n k (omega arith))
    (λ e. let d = eqb-true n k e in eq-eqb (min 2 n) k (omega arith))

due_most : (b : Bool) → cond b 0 1 ≤ 1
due_most true = lit≤ tt
due_most false = lit≤ tt

pub due_named : (t : List ℕ) (s : Small) (p : ℕ) (m : List ℕ) → p < pages_in t → Counted (pages_of t) m → eqb (get_or m p 0) (due_mark t s p) ≡ named_once (pages_of t) s p
due_named t s p m inside h =
    let l = pages_length t in
    let g : (page (pages_of t) p).level ≡ level_at t p = ap (λ y. y.level) (pages_at t p inside) ∙ level_in t p in
    rw (g, h p (omega arith)) (up_to_two (named (pages_of t) p) (due_mark t s p) (due_most (eqb (level_at t p) 0 || eqb p s.root)))

-- a loop over all pages: one turn
pub below_turn : (f : ℕ → Bool) (z r : Bool) (p : ℕ) → z ≡ every_below f p → r ≡ f p → (z && r) ≡ every_below f (p + 1)
unfolding every_below
below_turn f z r p a b = rw add-one (ap₂ (λ x y. x && y) a b)

pub below_none : (f : ℕ → Bool) → true ≡ every_below f 0
unfolding every_below
below_none f = refl

-- a loop over the entries that name children: one turn, and the end
module _ (es : List Entry) where
  pub marked_turn : (m m' w : List ℕ) (i c : ℕ) → i < length es → c ≡ (get_or es i zero_entry).child → m' ≡ mark m c → marked m (map child_of (drop i es)) ≡ w → marked m' (map child_of (drop (i + 1) es)) ≡ w
  unfolding marked
  marked_turn m m' w i c p d e h =
      let k = drop-cons es i zero_entry p in
      rw (e, d, add-one) (ap (λ l. marked m (map child_of l)) (sym k) ∙ h)

  pub marked_end : (m w : List ℕ) (i : ℕ) → length es ≤ i → marked m (map child_of (drop i es)) ≡ w → m ≡ w
  unfolding marked
  marked_end m w i p h = sym (ap (λ l. marked m (map child_of l)) (drop_of_length-le es {i = i} p)) ∙ h

-- a page below level 2 has no children
pub marked_none : (x : Page) (l : ℕ) (m : List ℕ) → l ≡ x.level → l < 2 → m ≡ marked m (children x)
unfolding children marked
marked_none x l m e h = rw (lt-leb 2 x.level (omega arith))

pub marked_index : (x : Page) (l : ℕ) (m m' : List ℕ) → l ≡ x.level → 2 ≤ l → m' ≡ marked m (map child_of (in_use x)) → m' ≡ marked m (children x)
unfolding children
marked_index x l m m' e h k = rw (le-leb 2 x.level (omega arith)) k
