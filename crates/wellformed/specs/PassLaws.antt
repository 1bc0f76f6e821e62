-- Laws of the flat pass: its loops over entries, and its tests of a page as the definition says them.
use Rattle.std.specs.Prelude.{Option, Some, None, ℕ, ◌+◌, ◌≤◌, ◌<◌, Bool, ◌&&◌, List, [], ◌∷◌, map, ◌≡◌, eqb, ltb, length, get_or, slice_get, drop}
use Rattle.std.proofs.Math.Bool.{true, false, and-true, and_assoc}
use Rattle.std.proofs.Math.Path.{refl, sym, ap, ap₂}
use Rattle.std.proofs.Common.{◌∙◌, add-one, arith, drop_of_length-le}
use borrow.Author.Tests.{le-ltb, lt-ltb, le-leb, lt-leb, eq-eqb, ne_eqb}
use Rattle.std.proofs.Math.Dec.{leb}
use Rattle.std.proofs.Math.Logic.{⊎_elim}
use Rattle.std.proofs.lemmas.Option.{none-some, slice_get-get_or, slice_get_within, get_or_from_slice_get}
use Rattle.ground.specs.Tests.{below_or_not}
use Rattle.std.proofs.Math.Seq.{drop-cons}
use Rattle.ground.specs.Boxes.{legal, gust_passes}
use Rattle.ground.specs.declared.boxes.Box.{Box}
use Rattle.pages.specs.Layout.{after_gust, page_entries, pages_in, pages_of, page_at, zero_entry, free_page, words_of_entry, words_of_entries, words_of_page}
use Rattle.pages.specs.LayoutLaws.{pages_at}
use Rattle.pages.specs.Summary.{in_use, summary_of}
use Rattle.pages.specs.Words.{every, all_zero, same_words}
use Rattle.pages.specs.declared.Entry.{Entry}
use Rattle.pages.specs.declared.Page.{Page}
use Rattle.pages.specs.declared.Small.{Small}
use Rattle.wellformed.specs.WellFormed.{page, child_of, children, is_lower, children_lower, least_count, count_stands, is_exact, leaf_entry_stands, entries_stand, page_stands}

-- an entry's child is one level lower, and the entry exact
abbrev pub lower_and_exact : List Page → ℕ → Entry → Bool
lower_and_exact ps level e = is_lower ps level (child_of e) && is_exact ps e

-- a loop over the entries of a list: one turn, and the end
module _ (f : Entry → Bool) (es : List Entry) where
  pub every_turn : (z w r : Bool) (i : ℕ) → i < length es → r ≡ f (get_or es i zero_entry) → (z && every f (drop i es)) ≡ w → (z && r && every f (drop (i + 1) es)) ≡ w
  unfolding every
  every_turn z w r i p e h =
      let d = drop-cons es i zero_entry p in
      and_assoc z r (every f (drop (i + 1) es))
      ∙ ap (λ b. z && b) (rw (e, add-one) (sym (ap (every f) d)))
      ∙ h

  pub every_end : (z w : Bool) (i : ℕ) → length es ≤ i → (z && every f (drop i es)) ≡ w → z ≡ w
  unfolding every
  every_end z w i p h = sym (and-true z) ∙ ap (λ b. z && b) (sym (ap (every f) (drop_of_length-le es {i = i} p))) ∙ h

-- page c of the book where the table has it
pub page_is : (t : List ℕ) (c : ℕ) → c < pages_in t → page (pages_of t) c ≡ page_at t c
page_is t c p = pages_at t c p

-- a page that a number names: there is none past the end, and else it is the page of that number
module _ (ps : List Page) (c : ℕ) where
  pub past_end : slice_get ps c ≡ None → ltb c (length ps) ≡ false
  past_end e =
      le-ltb c (length ps)
      (⊎_elim (λ (h : c < length ps). absurd (none-some (page ps c) (sym e ∙ slice_get-get_or ps c free_page h))) (λ (h : length ps ≤ c). h) (below_or_not c (length ps)))

  pub before_end : (x : Page) → slice_get ps c ≡ Some x → ltb c (length ps) ≡ true
  before_end x e = lt-ltb c (length ps) (slice_get_within ps c x e)

  pub page_there : (x : Page) → slice_get ps c ≡ Some x → page ps c ≡ x
  page_there x e = get_or_from_slice_get ps c x free_page e

-- the page that an entry names
module _ (ps : List Page) (level c : ℕ) (e : Entry) (names : c ≡ e.child) where
  named_there : (o : Option Page) → slice_get ps c ≡ o → slice_get ps e.child ≡ o
  named_there o h = ap (slice_get ps) (sym names) ∙ h

  pub exact_outside : slice_get ps c ≡ None → false ≡ lower_and_exact ps level e
  unfolding is_lower
  exact_outside h = rw (past_end ps e.child (named_there None h))

  lower_inside : (x : Page) (b : ℕ) → slice_get ps c ≡ Some x → b ≡ x.level → eqb (b + 1) level ≡ is_lower ps level e.child
  unfolding is_lower
  lower_inside x b h q =
      let g = named_there (Some x) h in
      rw (before_end ps e.child x g, page_there ps e.child x g, q)

  pub exact_inside : (x : Page) (b : ℕ) (m : Entry) (r : Bool) → slice_get ps c ≡ Some x → b ≡ x.level → m ≡ summary_of c x → r ≡ same_words (words_of_entry e) (words_of_entry m) → (eqb (b + 1) level && r) ≡ lower_and_exact ps level e
  unfolding is_exact
  exact_inside x b m r h q k s =
      let child = k ∙ ap₂ summary_of names (sym (page_there ps e.child x (named_there (Some x) h))) in
      ap₂ (λ y z. y && z) (lower_inside x b h q) (s ∙ ap (λ y. same_words (words_of_entry e) (words_of_entry y)) child)

-- a leaf entry's box and gust; and all of it, with what was laid of those before
abbrev pub record_stands : Entry → Bool
record_stands e = legal e.place && gust_passes (record { tenths = e.gust })

pub leaf_turn : (e : Entry) (s z r x : Bool) → r ≡ record_stands e → x ≡ (z && all_zero (after_gust e)) → (s && r && x) ≡ (s && z && leaf_entry_stands e)
unfolding leaf_entry_stands
leaf_turn e s z r x p q = rw (p, q) (crossed s (record_stands e) z (all_zero (after_gust e)))
  where
    crossed : (a b c d : Bool) → (a && b && (c && d)) ≡ (a && c && (b && d))
    crossed true b true d = refl
    crossed true true false d = refl
    crossed true false false d = refl
    crossed false b c d = refl

-- what the pass asks of a page: its children are one level lower, and it stands
abbrev pub page_passes : List Page → Small → ℕ → Bool
page_passes ps s p = children_lower ps p && page_stands ps s p (page ps p)

-- a test of what a list names, and one of the list itself, are one test
every_both : (f : ℕ → Bool) (g : Entry → Bool) (es : List Entry) → (every f (map child_of es) && every g es) ≡ every (λ e. f (child_of e) && g e) es
unfolding every
every_both f g [] = refl
every_both f g (e ∷ es) = crossed (f (child_of e)) (every f (map child_of es)) (g e) (every g es) (every_both f g es)
  where
    crossed : (a b c d : Bool) {w : Bool} → (b && d) ≡ w → (a && b && (c && d)) ≡ (a && c && w)
    crossed true true true d h = h
    crossed true true false d h = refl
    crossed true false true d h = h
    crossed true false false d h = refl
    crossed false b c d h = refl

-- the tests of a page of a table, by its level
module _ (t : List ℕ) (s : Small) (p : ℕ) (x : Page) (inside : p < pages_in t) (there : x ≡ page_at t p) where
  here : page (pages_of t) p ≡ x
  here = page_is t p inside ∙ sym there

  pub passes_free : (l : ℕ) (z : Bool) → l ≡ x.level → l ≡ 0 → z ≡ all_zero (words_of_page x) → z ≡ page_passes (pages_of t) s p
  unfolding children_lower children page_stands every
  passes_free l z q e d =
      rw (here, lt-leb 2 x.level (omega arith), eq-eqb x.level 0 (omega arith)) d

  -- the test of the count
  counted : (l m k : ℕ) → l ≡ x.level → m ≡ least_count s p l → k ≡ x.count → (leb m k && leb k page_entries) ≡ count_stands s p x
  unfolding count_stands
  counted l m k q e d = ap₂ (λ a b. leb a b && leb b page_entries) (e ∙ ap (least_count s p) q) d

  pub passes_leaf : (l m k : ℕ) (e z : Bool) → l ≡ x.level → l ≡ 1 → m ≡ least_count s p l → k ≡ x.count → e ≡ every leaf_entry_stands (in_use x) → z ≡ all_zero (words_of_entries (drop x.count x.entries)) → (leb m k && leb k page_entries && e && z) ≡ page_passes (pages_of t) s p
  unfolding children_lower children page_stands entries_stand every
  passes_leaf l m k e z q o r d f g =
      rw (here, lt-leb 2 x.level (omega arith), ne_eqb x.level 0 (λ w. omega arith), eq-eqb x.level 1 (omega arith))
      (ap₂ (λ a b. a && b) (ap₂ (λ a b. a && b) (counted l m k q r d) f) g)

  pub passes_index : (l m k : ℕ) (e z : Bool) → l ≡ x.level → 2 ≤ l → m ≡ least_count s p l → k ≡ x.count → e ≡ every (lower_and_exact (pages_of t) x.level) (in_use x) → z ≡ all_zero (words_of_entries (drop x.count x.entries)) → (leb m k && leb k page_entries && e && z) ≡ page_passes (pages_of t) s p
  unfolding children_lower children page_stands entries_stand
  passes_index l m k e z q o r d f g =
      let u = f ∙ sym (every_both (is_lower (pages_of t) x.level) (is_exact (pages_of t)) (in_use x)) in
      rw (here, le-leb 2 x.level (omega arith), ne_eqb x.level 0 (λ w. omega arith), ne_eqb x.level 1 (λ w. omega arith))
      (ap₂ (λ a b. a && b) (ap₂ (λ a b. a && b) (counted l m k q r d) u) g
      ∙ moved (count_stands s p x) (every (is_lower (pages_of t) x.level) (map child_of (in_use x))) (every (is_exact (pages_of t)) (in_use x)) (all_zero (words_of_entries (drop x.count x.entries))))
    where
      moved : (a b c d : Bool) → (a && (b && c) && d) ≡ (b && (a && c && d))
      moved true true c d = refl
      moved true false c d = refl
      moved false true c d = refl
      moved false false c d = refl
