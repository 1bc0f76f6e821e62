-- The ways through the definition, as the code takes them: each for one return of one function.
use Rattle.std.specs.Prelude.{ℕ, zero, suc, ◌+◌, ◌-◌, ◌≤◌, ◌<◌, Bool, ◌&&◌, ◌||◌, not, List, [], ◌∷◌, ◌≡◌, leb, ltb, eqb, length, get_or, drop}
use Rattle.std.proofs.Math.Bool.{true, false, cond}
use Rattle.std.proofs.Math.Path.{refl}
use Rattle.std.proofs.Common.{sym, ap, ◌∙◌, add-one, arith, leb-true, le-leb, lt-ltb, le-ltb, ltb-true, eq-eqb, eqb-true, drop_of_length-le, drop-cons, ⊎_elim}
use Rattle.std.proofs.lemmas.List.FromFn.{fill_by_all}
use Rattle.std.proofs.lemmas.Option.{slice_get-get_or, slice_get_within, get_or_from_slice_get, none-some, same_Some}
use Rattle.std.specs.List.{range_with_len, slice_get}
use Rattle.std.specs.Prelude.{map, fold, ok_or}
use Rattle.ground.specs.Boxes.{touches, covers, legal}
use Rattle.ground.specs.Tests.{both, three, orders, below_or_not}
use Rattle.ground.specs.declared.boxes.Box.{Box}
use Rattle.pages.specs.Layout.{page_entries, table_fits, pages_of, free_page, zero_entry}
use Rattle.pages.specs.ViewLaws.{used_entry}
use Rattle.pages.specs.Summary.{in_use}
use Rattle.pages.specs.declared.Entry.{Entry}
use Rattle.pages.specs.declared.Page.{Page}
use Rattle.pages.specs.declared.Small.{Small}
use Rattle.wellformed.specs.WellFormed.{page}
use Rattle.asking.specs.Asking.{Search, refused, found, raised, passed_over, step, follow, search_entry, search_record, search_one, in_order, may_open, search_opened, search_page, least_root, search_book, answered, asked, says, refused_by, told_by, told}
use Rattle.asking.specs.Seen.{seen, raised_by, opens, searched_in}
use Rattle.asking.specs.declared.Asked.{Asked}
use Rattle.std.specs.Prelude.{Option, Some, None, Result, Ok, Err}
use Rattle.ground.specs.declared.refusals.Refusal.TheVariants as no
use Rattle.ground.specs.declared.refusals.Refusal.{Refusal}
use Rattle.asking.specs.declared.search.Step.TheVariants.{Pass, Raise, Open}

-- the entry of a page at a place that is in use, and those after it
pub in_use_next : (x : Page) (i : ℕ) (e : Entry) → i < length (in_use x) → e ≡ get_or x.entries i zero_entry → drop i (in_use x) ≡ e ∷ drop (i + 1) (in_use x)
in_use_next x i e k h =
    rw (add-one i)
    (drop-cons (in_use x) i zero_entry k
    ∙ ap (λ (y : Entry). y ∷ drop (suc i) (in_use x)) (used_entry x i k ∙ sym h))

pub in_use_none : (x : Page) (i : ℕ) → length (in_use x) ≤ i → drop i (in_use x) ≡ []
in_use_none x i k = drop_of_length-le (in_use x) {i = i} k

pub in_use_all : (x : Page) (n : ℕ) → n ≡ length (in_use x) → in_use x ≡ map (λ i. get_or x.entries i zero_entry) (range_with_len 0 n)
in_use_all x n h = fill_by_all (λ i. get_or x.entries i zero_entry) (in_use x) n zero_entry (sym h) (λ i k. used_entry x i (omega arith))

-- whether a page may be opened: past the table, and in it
past_none : (ps : List Page) (p : ℕ) → slice_get ps p ≡ None → length ps ≤ p
past_none ps p h =
    ⊎_elim (λ (k : p < length ps). absurd (none-some _ (sym h ∙ slice_get-get_or ps p free_page k)))
    (λ k. k)
    (below_or_not p (length ps))

pub may_not : (ps : List Page) (level least p opened : ℕ) → slice_get ps p ≡ None → None ≡ opens ps level least p opened
unfolding may_open
may_not ps level least p opened h = let l = past_none ps p h in rw (le-ltb p (length ps) l)

grouped : (a b c d e : Bool) → a && b && c && d && e ≡ (a && b) && (c && d) && e
grouped true true c d e = refl
grouped true false c d e = refl
grouped false b c d e = refl

module _ (ps : List Page) (level least p opened l n m : ℕ) (x : Page) (h : slice_get ps p ≡ Some x) (pl : l ≡ x.level) (pn : n ≡ x.count) (pm : m ≡ length ps) where
  there : page ps p ≡ x
  there = get_or_from_slice_get ps p x free_page h

  pub may : leb 1 level && eqb l level && leb least n && leb n page_entries && ltb opened m ≡ may_open ps level least p opened
  unfolding may_open
  may =
      rw (pl, pn, pm, there, lt-ltb p (length ps) (slice_get_within ps p x h))
      (grouped (leb 1 level) (eqb x.level level) (leb least x.count) (leb x.count page_entries) (ltb opened (length ps)))

  pub opens_so : (b : Bool) → leb 1 level && eqb l level && leb least n && leb n page_entries && ltb opened m ≡ b → cond b (Some x) None ≡ opens ps level least p opened
  opens_so b k = rw (sym k ∙ may, there)

-- what an opened page is
pub record MayOpen (ps : List Page) (level least p opened : ℕ) : Type 0 where
  pub inside : p < length ps
  pub some : 1 ≤ level
  pub same : (page ps p).level ≡ level
  pub least_count_lem : least ≤ (page ps p).count
  pub few : (page ps p).count ≤ page_entries
  pub left : opened < length ps

pub may_opened : (ps : List Page) (level least p opened : ℕ) → may_open ps level least p opened ≡ true → MayOpen ps level least p opened
unfolding may_open
may_opened ps level least p opened e =
    let h = three (ltb p (length ps) && (leb 1 level && eqb (page ps p).level level)) (leb least (page ps p).count && leb (page ps p).count page_entries) (ltb opened (length ps)) e in
    let g = both (ltb p (length ps)) (leb 1 level && eqb (page ps p).level level) h.0 in
    let l = both (leb 1 level) (eqb (page ps p).level level) g.1 in
    let c = orders least (page ps p).count (page ps p).count page_entries h.1 in
    record { inside = ltb-true p (length ps) g.0; some = leb-true 1 level l.0; same = eqb-true (page ps p).level level l.1; least_count_lem = c.0; few = c.1; left = ltb-true opened (length ps) h.2 }

pub may_so : (ps : List Page) (level least p opened : ℕ) → MayOpen ps level least p opened → may_open ps level least p opened ≡ true
unfolding may_open
may_so ps level least p opened h =
    rw (lt-ltb p (length ps) h.inside, le-leb 1 level h.some, eq-eqb (page ps p).level level h.same, le-leb least (page ps p).count h.least_count_lem, le-leb (page ps p).count page_entries h.few, lt-ltb opened (length ps) h.left)

-- leaf entries by their places
pub raised_at : (q : Box) (e : ℕ → Entry) (is : List ℕ) (best : ℕ) → fold (λ most i. raised q (e i) most) best is ≡ raised_by q (map e is) best
raised_at q e [] best = refl
raised_at q e (i ∷ is) best = raised_at q e is (raised q (e i) best)

-- a leaf's entries in order
pub leaf_searched : (q : Box) (es : List Entry) (best opened : ℕ) → in_order (search_record q) es (found best opened) ≡ found (raised_by q es best) opened
unfolding in_order search_record
leaf_searched q [] best opened = refl
leaf_searched q (e ∷ es) best opened = leaf_searched q es (raised q e best) opened

-- what becomes of an index entry
turned : (a b : Bool) → a || b ≡ b || a
turned true true = refl
turned true false = refl
turned false true = refl
turned false false = refl

module _ (q : Box) (e : Entry) (best gust : ℕ) (touch : Bool) (p : touch ≡ touches q e.place) (g : gust ≡ e.gust) where
  passes : (b : Bool) → leb (gust + 1) best || not touch ≡ b → passed_over q e best ≡ b
  passes b h = rw (← p, ← g) (turned (not touch) (leb (gust + 1) best) ∙ h)

  pub step_pass : leb (gust + 1) best || not touch ≡ true → Pass ≡ step q e best
  unfolding step
  step_pass h = rw (passes true h)

  module _ (strong covered : Bool) (ps : strong ≡ touches q e.strongest) (pc : covered ≡ covers q e.place) (h : leb (gust + 1) best || not touch ≡ false) where
    pub step_raise : strong || covered ≡ true → Raise gust ≡ step q e best
    unfolding step
    step_raise k = rw (passes false h, ← ps, ← pc, k, g)

    pub step_open : (child : ℕ) → strong || covered ≡ false → child ≡ e.child → Open child ≡ step q e best
    unfolding step
    step_open child k c = rw (passes false h, ← ps, ← pc, k, c)

-- the search of an entry: its three ways
module _ (lower : ℕ → ℕ → ℕ → Search) (q : Box) (e : Entry) (best opened : ℕ) where
  pub entry_pass : Pass ≡ step q e best → found best opened ≡ search_entry lower q e (found best opened)
  unfolding search_entry follow
  entry_pass h = rw (← h)

  pub entry_raise : (gust : ℕ) → Raise gust ≡ step q e best → found (gust + 1) opened ≡ search_entry lower q e (found best opened)
  unfolding search_entry follow
  entry_raise gust h = rw (← h)

  pub entry_open : (child : ℕ) → Open child ≡ step q e best → lower child best opened ≡ search_entry lower q e (found best opened)
  unfolding search_entry follow
  entry_open child h = rw (← h)

-- a page that is opened, and one that is not
pub opened_page : (ps : List Page) (q : Box) (level least p best opened : ℕ) → may_open ps level least p opened ≡ true → search_page ps q level least p best opened ≡ searched_in ps q (level - 1) (page ps p) best (opened + 1)
unfolding search_page search_opened
opened_page ps q zero least p best opened h = let m = may_opened ps zero least p opened h in absurd (omega arith)
opened_page ps q (suc n) least p best opened h = let e : suc n - 1 ≡ n = omega arith in rw (h, e)

pub refused_page : (ps : List Page) (q : Box) (level least p best opened : ℕ) → may_open ps level least p opened ≡ false → search_page ps q level least p best opened ≡ refused
unfolding search_page search_opened
refused_page ps q zero least p best opened h = refl
refused_page ps q (suc n) least p best opened h = rw h

-- an index page's entries in order
pub order_turn : (f : Entry → Search → Search) (es rest : List Entry) (e : Entry) (s v r : Search) → es ≡ e ∷ rest → in_order f es s ≡ v → r ≡ f e s → in_order f rest r ≡ v
unfolding in_order
order_turn f es rest e s v r p h k = rw k (sym (ap (λ (l : List Entry). in_order f l s) p) ∙ h)

pub order_end : (f : Entry → Search → Search) (es : List Entry) (s v : Search) → es ≡ [] → in_order f es s ≡ v → s ≡ v
unfolding in_order
order_end f es s v p h = sym (ap (λ (l : List Entry). in_order f l s) p) ∙ h

-- what is refused stays refused
order_refused : (lower : ℕ → ℕ → ℕ → Search) (q : Box) (es : List Entry) → in_order (search_entry lower q) es refused ≡ refused
unfolding in_order search_entry
order_refused lower q [] = refl
order_refused lower q (e ∷ es) = order_refused lower q es

pub order_fails : (lower : ℕ → ℕ → ℕ → Search) (q : Box) (es rest : List Entry) (e : Entry) (s v : Search) → es ≡ e ∷ rest → in_order (search_entry lower q) es s ≡ v → refused ≡ search_entry lower q e s → refused ≡ v
order_fails lower q es rest e s v p h k = sym (order_refused lower q rest) ∙ order_turn (search_entry lower q) es rest e s v refused p h k

pub index_one : (lower : ℕ → ℕ → ℕ → Search) (q : Box) (level : ℕ) → 2 ≤ level → search_one lower q (level - 1) ≡ search_entry lower q
unfolding search_one
index_one lower q zero h = absurd (omega arith)
index_one lower q (suc zero) h = absurd (omega arith)
index_one lower q (suc (suc m)) h = let e : suc (suc m) - 1 ≡ suc m = omega arith in rw e

-- the search of a page: a leaf, and an index page
pub leaf_page : (ps : List Page) (q : Box) (level : ℕ) (x : Page) (best opened : ℕ) → level ≡ 1 → found (raised_by q (in_use x) best) opened ≡ searched_in ps q (level - 1) x best opened
unfolding search_one
leaf_page ps q level x best opened e = rw e (sym (leaf_searched q (in_use x) best opened))

pub index_page : (ps : List Page) (q : Box) (level : ℕ) (x : Page) (best opened : ℕ) → 2 ≤ level → in_order (search_entry (search_page ps q (level - 1) 1) q) (in_use x) (found best opened) ≡ searched_in ps q (level - 1) x best opened
index_page ps q level x best opened h = ap (λ f. in_order f (in_use x) (found best opened)) (sym (index_one (search_page ps q (level - 1) 1) q level h))

-- what the opening of a page tells
opens_none : (b : Bool) (x : Page) → None ≡ cond b (Some x) None → b ≡ false
opens_none true x h = absurd (none-some x h)
opens_none false x h = refl

opens_some : (b : Bool) (x y : Page) → Some y ≡ cond b (Some x) None → (b ≡ true) × (y ≡ x)
opens_some true x y h = (refl, same_Some y x h)
opens_some false x y h = absurd (none-some y (sym h))

module _ (ps : List Page) (q : Box) (level least p best opened : ℕ) where
  not_opened : None ≡ opens ps level least p opened → refused ≡ search_page ps q level least p best opened
  not_opened h = sym (refused_page ps q level least p best opened (opens_none (may_open ps level least p opened) (page ps p) h))

  is_opened : (x : Page) → Some x ≡ opens ps level least p opened → searched_in ps q (level - 1) x best (opened + 1) ≡ search_page ps q level least p best opened
  is_opened x h =
      let m = opens_some (may_open ps level least p opened) (page ps p) x h in
      ap (λ y. searched_in ps q (level - 1) y best (opened + 1)) m.1 ∙ sym (opened_page ps q level least p best opened m.0)

pub opened_level : (ps : List Page) (level least p opened : ℕ) (x : Page) → Some x ≡ opens ps level least p opened → 1 ≤ level
opened_level ps level least p opened x h =
    let m = opens_some (may_open ps level least p opened) (page ps p) x h in
    let o = may_opened ps level least p opened m.0 in
    o.some

-- an entry whose page may not be opened, and one whose page is
module _ (ps : List Page) (q : Box) (e : Entry) (n child best opened : ℕ) (h : Open child ≡ step q e best) where
  pub entry_refused : None ≡ opens ps n 1 child opened → refused ≡ search_entry (search_page ps q n 1) q e (found best opened)
  entry_refused m = not_opened ps q n 1 child best opened m ∙ entry_open (search_page ps q n 1) q e best opened child h

  pub entry_opened : (x : Page) → Some x ≡ opens ps n 1 child opened → searched_in ps q (n - 1) x best (opened + 1) ≡ search_entry (search_page ps q n 1) q e (found best opened)
  entry_opened x m = is_opened ps q n 1 child best opened x m ∙ entry_open (search_page ps q n 1) q e best opened child h

-- the root, which may not be opened or is; and the answer
module _ (ps : List Page) (s : Small) (q : Box) (least : ℕ) (l : least ≡ least_root s.height) where
  pub root_refused : None ≡ opens ps s.height least s.root 0 → refused ≡ search_book ps s q
  unfolding search_book
  root_refused m = not_opened ps q s.height least s.root 0 0 m ∙ ap (λ n. search_page ps q s.height n s.root 0 0) l

  pub root_opened : (x : Page) → Some x ≡ opens ps s.height least s.root 0 → searched_in ps q (s.height - 1) x 0 1 ≡ search_book ps s q
  unfolding search_book
  root_opened x m = is_opened ps q s.height least s.root 0 0 x m ∙ ap (λ n. search_page ps q s.height n s.root 0 0) l

-- what the code has found, and that it has been refused
pub answer_found : (o : Option ℕ) (best opened : ℕ) (x : Search) → seen o opened ≡ x → Ok best ≡ ok_or o no.Damaged → found best opened ≡ x
answer_found None best opened x h k = cc
answer_found (Some b) best opened x h k = let e : best ≡ b = cc in rw e h

pub answer_refused : (o : Option ℕ) (opened : ℕ) (x : Search) (r : Refusal) → seen o opened ≡ x → Err r ≡ ok_or o no.Damaged → Err r ≡ answered x
unfolding answered
answer_refused None opened x r h k = let e : r ≡ no.Damaged = cc in rw (← h) (ap Err e)
answer_refused (Some b) opened x r h k = cc

-- the answer: refusals 1 and 2, and what the search has come to
pub asked_no_table : (t : List ℕ) (s : Small) (q : Box) → table_fits t ≡ false → Err no.Table ≡ asked t s q
unfolding asked
asked_no_table t s q h = rw h

pub asked_no_box : (t : List ℕ) (s : Small) (q : Box) → table_fits t ≡ true → legal q ≡ false → Err no.Box ≡ asked t s q
unfolding asked
asked_no_box t s q h k = rw (h, k)

pub asked_found : (t : List ℕ) (s : Small) (q : Box) → table_fits t ≡ true → legal q ≡ true → answered (search_book (pages_of t) s q) ≡ asked t s q
unfolding asked
asked_found t s q h k = rw (h, k)

-- the answer in the rules' numbers
says_answered : (x : Search) → says (answered x) ≡ told_by x
unfolding answered told_by
says_answered refused = refl
says_answered (found zero opened) = refl
says_answered (found (suc gust) opened) = rw (add-one gust)

pub says_told : (t : List ℕ) (s : Small) (q : Box) → says (asked t s q) ≡ told t s q
unfolding asked told
says_told t s q = by_tests (table_fits t) (legal q)
  where
    by_tests : (f l : Bool) → says (cond f (cond l (answered (search_book (pages_of t) s q)) (Err no.Box)) (Err no.Table)) ≡ cond f (cond l (told_by (search_book (pages_of t) s q)) (refused_by 2)) (refused_by 1)
    by_tests true true = says_answered (search_book (pages_of t) s q)
    by_tests true false = refl
    by_tests false l = refl

pub told_so : (t : List ℕ) (s : Small) (q : Box) (r : Result Asked Refusal) → r ≡ asked t s q → (r ≡ asked t s q) × (says r ≡ told t s q)
told_so t s q r e = (e, ap says e ∙ says_told t s q)
