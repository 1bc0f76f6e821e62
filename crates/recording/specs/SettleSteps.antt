-- A page settled, and a page come back to, in the code's order. What is recorded and the struck count pass through unchanged.
use Rattle.std.specs.Prelude.{Some, None, Option, ℕ, ◌-◌, ◌≤◌, ◌<◌, Bool, true, false, List, [], ◌∷◌, ◌++◌, ◌≡◌, refl, leb, length, set, replicate}
use Rattle.std.proofs.Common.{append-nil, sym, ap, ap₂, ◌∙◌, arith, le-leb, length-append}
use Rattle.std.proofs.lemmas.Bool.{lt-leb}
use Rattle.pages.specs.Facts.{fitting}
use Rattle.pages.specs.Free.{lowest_free}
use Rattle.pages.specs.FreeLaws.{lowest_at}
use Rattle.pages.specs.Layout.{page_entries, most_pages, zero_box, zero_entry, table_fits, pages_of}
use Rattle.pages.specs.LayoutLaws.{pages_length}
use Rattle.pages.specs.Summary.{in_use, summary_of}
use Rattle.pages.specs.declared.Entry.{Entry}
use Rattle.pages.specs.declared.Page.{Page}
use Rattle.split.specs.Split.{halves, page_from, pages_from}
use Rattle.split.specs.declared.filling.Halves.{Halves}
use Rattle.wellformed.specs.WellFormed.{page}
use Rattle.rules.specs.Scan.{Sought, handed_in}
use Rattle.rules.specs.Recording.{Became, Became.stands, Became.split, Walked, into_page, split_page, settle_by, settle, exact_at, come_back_by, come_back}
use Rattle.recording.specs.PageSteps.{Tidy, in_use_is, level_is, count_is}
use Rattle.recording.specs.Views.{Leaves, became_of}

-- the pages and what became of the page
pub record Settled : Type 0 where
  pub pages : List Page
  pub became : Became

abbrev pub settled_by : Walked → Settled
settled_by w = record { pages = w.pages; became = w.became }

abbrev pub passing : Settled → Sought → ℕ → Walked
passing x s k = record { pages = x.pages; became = x.became; sought = s; struck = k }

unfoldable pub settled : List Page → ℕ → ℕ → List Entry → Settled
settled ps p level es = settled_by (settle ps p level es (handed_in zero_box) 0)

pub settle_passes : (ps : List Page) (p level : ℕ) (es : List Entry) (s : Sought) (k : ℕ) → settle ps p level es s k ≡ passing (settled ps p level es) s k
unfolding settled settle split_page
settle_passes ps p level es s k = by_test (leb (length es) page_entries)
  where
    by_free : (f : Option ℕ) (qs : List Page) (xs : List Entry) → into_page f qs level xs s k ≡ passing (settled_by (into_page f qs level xs (handed_in zero_box) 0)) s k
    by_free (Some q) qs xs = refl
    by_free None qs xs = refl

    by_test : (t : Bool) → settle_by t ps p level es s k ≡ passing (settled_by (settle_by t ps p level es (handed_in zero_box) 0)) s k
    by_test true = refl
    by_test false = let qs = set ps p (page_from level (halves es).first) in by_free (lowest_free qs) qs (halves es).second

unfoldable pub came_back : Became → List Page → ℕ → ℕ → Settled
came_back o ps p i = settled_by (come_back p i (record { pages = ps; became = o; sought = handed_in zero_box; struck = 0 }))

pub come_back_passes : (p i : ℕ) (w : Walked) → come_back p i w ≡ passing (came_back w.became w.pages p i) w.sought w.struck
unfolding came_back come_back settled
come_back_passes p i w = by_case w.became
  where
    by_case : (o : Became) → come_back_by o w.pages p (page w.pages p).level (in_use (page w.pages p)) i w.sought w.struck
        ≡ passing (settled_by (come_back_by o w.pages p (page w.pages p).level (in_use (page w.pages p)) i (handed_in zero_box) 0)) w.sought w.struck
    by_case stands = settle_passes w.pages p (page w.pages p).level (exact_at w.pages (in_use (page w.pages p)) i) w.sought w.struck
    by_case (split q) = settle_passes w.pages p (page w.pages p).level (exact_at w.pages (in_use (page w.pages p)) i ++ (summary_of q (page w.pages q) ∷ [])) w.sought w.struck

-- a table so settled
pub record Settles (before after : List ℕ) (r : Option ℕ) (x : Settled) : Type 0 where
  pub same_length : length after ≡ length before
  pub pages_are : pages_of after ≡ x.pages
  pub became_is : became_of r ≡ x.became

-- at most eight entries
pub settled_few : (t u : List ℕ) (p level : ℕ) (x : Page) (es : List Entry) → Tidy x level es → Leaves t u (set (pages_of t) p x) → Settles t u None (settled (pages_of t) p level es)
unfolding settled settle
settled_few t u p level x es h l =
    rw (le-leb (length es) page_entries h.most) (record { same_length = l.same_length; pages_are = l.pages_are ∙ ap (set (pages_of t) p) h.is; became_is = refl })

-- as many entries in use as the page's own
pub settled_own : (t u : List ℕ) (p level : ℕ) (x : Page) (es : List Entry) (r : Option ℕ) → Tidy x level es → Settles t u r (settled (pages_of t) p x.level (in_use x)) → Settles t u r (settled (pages_of t) p level es)
settled_own t u p level x es r h s = rw (level_is x level es h.is, in_use_is x level es h.is) at s

pub own_tidy : (x : Page) (level : ℕ) (es : List Entry) → Tidy x level es → Tidy x x.level (in_use x)
own_tidy x level es h =
    let a = level_is x level es h.is in
    let b = in_use_is x level es h.is in
    record { is = h.is ∙ ap₂ (λ l xs. page_from l xs) (sym a) (sym b); most = omega (arith, h.most, ap length b) }

pub one_more_tidy : (x y : Page) (e : Entry) → Tidy x x.level (in_use x) → x.count < page_entries → y ≡ page_from x.level (in_use x ++ (e ∷ [])) → Tidy y x.level (in_use x ++ (e ∷ []))
one_more_tidy x y e h l d = record { is = d; most = omega (arith, length-append (in_use x) (e ∷ []), count_is x x.level (in_use x) h.is) }

-- nine entries: the second group takes the lowest free page, if there is one
full_entries : (x : Page) (e : Entry) → Tidy x x.level (in_use x) → page_entries ≤ x.count → x.entries ++ (e ∷ []) ≡ in_use x ++ (e ∷ [])
unfolding page_from
full_entries x e h l =
    let n : page_entries - length (in_use x) ≡ 0 = omega (arith, count_is x x.level (in_use x) h.is) in
    ap (λ (y : List Entry). y ++ (e ∷ [])) (ap (λ (y : Page). y.entries) h.is ∙ ap (λ m. in_use x ++ replicate m zero_entry) n ∙ append-nil (in_use x))

nine_split : (x : Page) (e : Entry) → Tidy x x.level (in_use x) → page_entries ≤ x.count → leb (length (in_use x ++ (e ∷ []))) page_entries ≡ false
nine_split x e h l = lt-leb (length (in_use x ++ (e ∷ []))) page_entries (omega (arith, length-append (in_use x) (e ∷ []), count_is x x.level (in_use x) h.is))

pub settled_split : (t u w : List ℕ) (p q : ℕ) (x : Page) (e : Entry) (h : Halves) → Tidy x x.level (in_use x) → page_entries ≤ x.count → h ≡ pages_from x.level (halves (x.entries ++ (e ∷ [])))
    → Leaves t u (set (pages_of t) p h.first) → Some q ≡ lowest_free (pages_of u) → Leaves u w (set (pages_of u) q h.second) → Settles t w (Some q) (settled (pages_of t) p x.level (in_use x ++ (e ∷ [])))
unfolding settled settle split_page
settled_split t u w p q x e h o n d a g b =
    let es = in_use x ++ (e ∷ []) in
    let m : h ≡ pages_from x.level (halves es) = d ∙ ap (λ xs. pages_from x.level (halves xs)) (full_entries x e o n) in
    let qs = set (pages_of t) p (page_from x.level (halves es).first) in
    let v : pages_of u ≡ qs = a.pages_are ∙ ap (λ (y : Halves). set (pages_of t) p y.first) m in
    let free : lowest_free qs ≡ Some q = sym (ap lowest_free v) ∙ sym g in
    rw (nine_split x e o n, free)
    (record { same_length = b.same_length ∙ a.same_length; pages_are = b.pages_are ∙ ap₂ (λ xs (y : Halves). set xs q y.second) v m; became_is = refl })

pub settled_unsplit : (t u : List ℕ) (p : ℕ) (x : Page) (e : Entry) (h : Halves) → Tidy x x.level (in_use x) → page_entries ≤ x.count → h ≡ pages_from x.level (halves (x.entries ++ (e ∷ [])))
    → Leaves t u (set (pages_of t) p h.first) → None ≡ lowest_free (pages_of u) → Settles t u None (settled (pages_of t) p x.level (in_use x ++ (e ∷ [])))
unfolding settled settle split_page
settled_unsplit t u p x e h o n d a g =
    let es = in_use x ++ (e ∷ []) in
    let m : h ≡ pages_from x.level (halves es) = d ∙ ap (λ xs. pages_from x.level (halves xs)) (full_entries x e o n) in
    let qs = set (pages_of t) p (page_from x.level (halves es).first) in
    let v : pages_of u ≡ qs = a.pages_are ∙ ap (λ (y : Halves). set (pages_of t) p y.first) m in
    let free : lowest_free qs ≡ None = sym (ap lowest_free v) ∙ sym g in
    rw (nine_split x e o n, free)
    (record { same_length = a.same_length; pages_are = v; became_is = refl })

-- a free page's number is a word
pub free_number : (u : List ℕ) (q : ℕ) → table_fits u ≡ true → Some q ≡ lowest_free (pages_of u) → q < most_pages
free_number u q h e = let l = lowest_at (pages_of u) q (sym e) in omega (arith, l.within, pages_length u, (fitting u h).most)

-- the two ways back
pub came_standing : (t u : List ℕ) (p i : ℕ) (o : Option ℕ) (y : Page) (r : Option ℕ) → o ≡ None → Tidy y (page (pages_of t) p).level (exact_at (pages_of t) (in_use (page (pages_of t) p)) i)
    → Settles t u r (settled (pages_of t) p y.level (in_use y)) → Settles t u r (came_back (became_of o) (pages_of t) p i)
unfolding came_back come_back settled
came_standing t u p i o y r e h s = rw e (settled_own t u p (page (pages_of t) p).level y (exact_at (pages_of t) (in_use (page (pages_of t) p)) i) r h s)

pub came_split : (t u : List ℕ) (p i q : ℕ) (o : Option ℕ) (y : Page) (e : Entry) (r : Option ℕ) → o ≡ Some q → Tidy y (page (pages_of t) p).level (exact_at (pages_of t) (in_use (page (pages_of t) p)) i) → e ≡ summary_of q (page (pages_of t) q)
    → Settles t u r (settled (pages_of t) p y.level (in_use y ++ (e ∷ []))) → Settles t u r (came_back (became_of o) (pages_of t) p i)
unfolding came_back come_back settled
came_split t u p i q o y e r d h m s =
    let a = level_is y (page (pages_of t) p).level (exact_at (pages_of t) (in_use (page (pages_of t) p)) i) h.is in
    let b = in_use_is y (page (pages_of t) p).level (exact_at (pages_of t) (in_use (page (pages_of t) p)) i) h.is in
    let g : Settles t u r (settled (pages_of t) p (page (pages_of t) p).level (exact_at (pages_of t) (in_use (page (pages_of t) p)) i ++ (summary_of q (page (pages_of t) q) ∷ []))) = rw (a, b, m) at s in
    rw d g
