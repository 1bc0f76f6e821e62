-- A tidy page changed where it lies: one entry made exact, or one more.
use Rattle.std.specs.Prelude.{None, Some, Option, ℕ, ◌+◌, ◌≤◌, ◌<◌, Bool, true, false, List, [], ◌∷◌, ◌++◌, ◌≡◌, refl, leb, length, get_or, set}
use Rattle.std.proofs.Common.{⊎_elim, ap₂, subst, ◌∙◌, arith, length-set, set-set, get_or-set_same}
use Rattle.std.proofs.Math.Path.{sym, ap}
use Rattle.std.proofs.Math.ListN.{get_or-eq_default}
use Rattle.std.proofs.Math.Seq.{set_out}
use Rattle.std.proofs.lemmas.List.{set-get_or}
use Rattle.ground.specs.Tests.{below_or_not}
use Rattle.pages.specs.Free.{lowest_free}
use Rattle.pages.specs.Layout.{page_entries, zero_box, zero_entry, free_page, pages_of, with_entry}
use Rattle.pages.specs.Summary.{in_use, summary_of}
use Rattle.pages.specs.declared.Entry.{Entry}
use Rattle.pages.specs.declared.Page.{Page}
use Rattle.split.specs.Split.{halves, page_from}
use Rattle.wellformed.specs.WellFormed.{page}
use Rattle.recording.specs.PageSteps.{Tidy, TidyPage, tidy_from, count_is, pushed, put_there}
use Rattle.rules.specs.Recording.{Became.stands, settle_by, settle, split_page, into_page, exact_at}
use Rattle.rules.specs.Scan.{handed_in}
use Rattle.recording.specs.SettleSteps.{Settled, settled_by, settled, Settles, settled_few, own_tidy, one_more_tidy, came_standing, came_split, came_back}
use Rattle.recording.specs.TableSteps.{UsedAt}
use Rattle.recording.specs.LookSteps.{all_stand, nothing_struck}
use Rattle.recording.specs.Views.{Leaves, Frees, became_of}
use Rattle.rules.specs.Strike.{struck_of, rest, strike_page}
use Rattle.ground.specs.declared.boxes.Box.{Box}

exact_length : (ps : List Page) (es : List Entry) (i : ℕ) → length (exact_at ps es i) ≡ length es
unfolding exact_at
exact_length ps es i = let c = (get_or es i zero_entry).child in length-set es i (summary_of c (page ps c))

-- page p with its entry at place i made exact, and page p settled with one entry more
abbrev pub exact_page : List Page → ℕ → ℕ → Page
exact_page ps p i = page_from (page ps p).level (exact_at ps (in_use (page ps p)) i)

abbrev pub settled_at : List Page → ℕ → Entry → Settled
settled_at ps p e = settled ps p (page ps p).level (in_use (page ps p) ++ (e ∷ []))

-- at a leaf nothing is appended to what is covered
abbrev pub leaf_settled : Bool → List Page → ℕ → Entry → Settled
leaf_settled true ps p e = record { pages = ps; became = stands }
leaf_settled false ps p e = settled_at ps p e

-- a page none of whose entries is struck is already what would be stored
pub none_to_strike : (n : ℕ) (b : Box) (v p : ℕ) (t : List ℕ) → TidyPage (page (pages_of t) p) → struck_of b v (in_use (page (pages_of t) p)) ≡ [] → Frees t t 0 (strike_page n b v (pages_of t) p)
none_to_strike n b v p t h none =
    let x = page (pages_of t) p in
    let z = nothing_struck n b v (pages_of t) (in_use x) none in
    let same : page_from x.level (rest b v (in_use x)) ≡ x = ap (page_from x.level) (all_stand b v (in_use x) none) ∙ sym h.is in
    record {
      same_length = refl;
      pages_are = sym (set-get_or (pages_of t) p free_page) ∙ ap₂ (λ qs (y : Page). set qs p y) (sym (ap (λ m. m.pages) z)) (sym same);
      struck_is = omega (arith, ap (λ m. m.records) z);
    }

module _ (t : List ℕ) (p : ℕ) (h : TidyPage (page (pages_of t) p)) where
  counted : (n : ℕ) → UsedAt t p n → n ≡ (page (pages_of t) p).count
  counted n u = u.is ∙ sym (count_is (page (pages_of t) p) (page (pages_of t) p).level (in_use (page (pages_of t) p)) h.is)

  pub exact_in : (u : List ℕ) (i n c : ℕ) (e : Entry) → UsedAt t p n → i < n → c ≡ (get_or (in_use (page (pages_of t) p)) i zero_entry).child → e ≡ summary_of c (page (pages_of t) c)
      → Leaves t u (set (pages_of t) p (with_entry (page (pages_of t) p) n i e)) → Leaves t u (set (pages_of t) p (exact_page (pages_of t) p i))
  unfolding exact_at
  exact_in u i n c e k l d f g =
      let x = page (pages_of t) p in
      let m = counted n k in
      let s : e ≡ summary_of (get_or (in_use x) i zero_entry).child (page (pages_of t) (get_or (in_use x) i zero_entry).child) = f ∙ ap (λ y. summary_of y (page (pages_of t) y)) d in
      let same = ap (λ y. with_entry x y i e) m ∙ (put_there x i e h (omega (arith, m))).is ∙ ap (λ y. page_from x.level (set (in_use x) i y)) s in
      record { same_length = g.same_length; pages_are = g.pages_are ∙ ap (set (pages_of t) p) same }

  pub exact_out : (i n : ℕ) → UsedAt t p n → n ≤ i → Leaves t t (set (pages_of t) p (exact_page (pages_of t) p i))
  unfolding exact_at
  exact_out i n k l =
      let x = page (pages_of t) p in
      let c = (get_or (in_use x) i zero_entry).child in
      let same : exact_page (pages_of t) p i ≡ x = ap (page_from x.level) (set_out (in_use x) i (summary_of c (page (pages_of t) c)) (omega (arith, k.is))) ∙ sym h.is in
      record { same_length = refl; pages_are = sym (set-get_or (pages_of t) p free_page) ∙ ap (set (pages_of t) p) (sym same) }

  pub append_in : (u : List ℕ) (n : ℕ) (e : Entry) → UsedAt t p n → n < page_entries → Leaves t u (set (pages_of t) p (with_entry (page (pages_of t) p) (n + 1) n e)) → Settles t u None (settled_at (pages_of t) p e)
  append_in u n e k l g =
      let x = page (pages_of t) p in
      let m = counted n k in
      let few : x.count < page_entries = omega (arith, m) in
      settled_few t u p x.level (with_entry x (n + 1) n e) (in_use x ++ (e ∷ [])) (one_more_tidy x (with_entry x (n + 1) n e) e h few (pushed x n e m h.is few)) g

  pub full_page : (n : ℕ) (y : Page) → UsedAt t p n → page_entries ≤ n → y ≡ page (pages_of t) p → Tidy y y.level (in_use y) × (page_entries ≤ y.count)
  full_page n y k l e =
      (subst TidyPage (sym e) h, subst (λ (z : Page). page_entries ≤ z.count) (sym e) (omega (arith, counted n k)))

  -- coming back
  exact_tidy : (i : ℕ) → Tidy (exact_page (pages_of t) p i) (page (pages_of t) p).level (exact_at (pages_of t) (in_use (page (pages_of t) p)) i)
  exact_tidy i = record { is = refl; most = omega (arith, exact_length (pages_of t) (in_use (page (pages_of t) p)) i, h.most) }

  pub came_standing_here : (u : List ℕ) (i : ℕ) (o : Option ℕ) → o ≡ None → Leaves t u (set (pages_of t) p (exact_page (pages_of t) p i)) → Settles t u None (came_back (became_of o) (pages_of t) p i)
  came_standing_here u i o e g =
      let y = exact_page (pages_of t) p i in
      let d = exact_tidy i in
      came_standing t u p i o y None e d (settled_few t u p y.level y (in_use y) (own_tidy y (page (pages_of t) p).level (exact_at (pages_of t) (in_use (page (pages_of t) p)) i) d) g)

-- the page that was made exact, in its place or past the end
pub exact_there : (ps : List Page) (p i : ℕ) → page (set ps p (exact_page ps p i)) p ≡ exact_page ps p i
unfolding exact_at page_from
exact_there ps p i = ⊎_elim (λ (l : p < length ps). get_or-set_same ps p (exact_page ps p i) free_page l) past (below_or_not p (length ps))
  where
    none : page ps p ≡ free_page → page ps p ≡ exact_page ps p i
    none e = e ∙ ap (λ (x : Page). page_from x.level (exact_at ps (in_use x) i)) (sym e)

    past : length ps ≤ p → page (set ps p (exact_page ps p i)) p ≡ exact_page ps p i
    past l = ap (λ (qs : List Page). page qs p) (set_out ps p (exact_page ps p i) l) ∙ none (get_or-eq_default ps free_page {n = p} l)

-- what stood in the page before does not matter
pub settled_over : (ps : List Page) (p level : ℕ) (y : Page) (es : List Entry) → settled (set ps p y) p level es ≡ settled ps p level es
unfolding settled settle split_page
settled_over ps p level y es = by_test (leb (length es) page_entries)
  where
    by_test : (b : Bool) → settled_by (settle_by b (set ps p y) p level es (handed_in zero_box) 0) ≡ settled_by (settle_by b ps p level es (handed_in zero_box) 0)
    by_test true = ap (λ qs. record { pages = qs; became = stands }) (set-set ps p y (page_from level es))
    by_test false = ap (λ qs. settled_by (into_page (lowest_free qs) qs level (halves es).second (handed_in zero_box) 0)) (set-set ps p y (page_from level (halves es).first))

pub exact_tidy_there : (t w : List ℕ) (p i : ℕ) → TidyPage (page (pages_of t) p) → Leaves t w (set (pages_of t) p (exact_page (pages_of t) p i)) → TidyPage (page (pages_of w) p)
exact_tidy_there t w p i h g =
    let ps = pages_of t in
    let e : page (pages_of w) p ≡ exact_page ps p i = ap (λ qs. page qs p) g.pages_are ∙ exact_there ps p i in
    subst TidyPage (sym e) (tidy_from (page ps p).level (exact_at ps (in_use (page ps p)) i) (omega (arith, exact_length ps (in_use (page ps p)) i, h.most)))

pub came_split_here : (t w u : List ℕ) (p i q : ℕ) (o : Option ℕ) (e : Entry) (r : Option ℕ) → TidyPage (page (pages_of t) p) → o ≡ Some q → e ≡ summary_of q (page (pages_of t) q)
    → Leaves t w (set (pages_of t) p (exact_page (pages_of t) p i)) → Settles w u r (settled_at (pages_of w) p e) → Settles t u r (came_back (became_of o) (pages_of t) p i)
came_split_here t w u p i q o e r h d m g s =
    let ps = pages_of t in
    let y = exact_page ps p i in
    let there : page (pages_of w) p ≡ y = ap (λ qs. page qs p) g.pages_are ∙ exact_there ps p i in
    let same : settled_at (pages_of w) p e ≡ settled ps p y.level (in_use y ++ (e ∷ [])) =
    ap₂ (λ qs (z : Page). settled qs p z.level (in_use z ++ (e ∷ []))) g.pages_are there ∙ settled_over ps p y.level y (in_use y ++ (e ∷ [])) in
    came_split t u p i q o y e r d (exact_tidy t p h i) m
    (record { same_length = s.same_length ∙ g.same_length; pages_are = s.pages_are ∙ ap (λ z. z.pages) same; became_is = s.became_is ∙ ap (λ z. z.became) same })
