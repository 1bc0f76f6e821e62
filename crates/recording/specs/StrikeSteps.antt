-- Step 1 in the code's order: entries struck one after another, and the rest of their page closed up.
use Rattle.std.specs.Prelude.{ℕ, zero, suc, ◌+◌, ◌-◌, ◌≤◌, ◌<◌, min, Bool, true, false, not, List, [], ◌∷◌, ◌++◌, map, ◌≡◌, refl, length, get_or, set, take}
use Rattle.std.proofs.Math.ListN.{length-map}
use Rattle.std.proofs.Common.{ext_get_or, append-nil, sym, ap, ap₂, ◌∙◌, add-one, arith, length-take, take-suc, take_all, ⊎_elim}
use Rattle.std.proofs.lemmas.List.{map-append, take-map, get_or-map}
use Rattle.ground.specs.declared.boxes.Box.{Box}
use Rattle.ground.specs.Tests.{below_or_not}
use Rattle.pages.specs.Layout.{page_entries, zero_box, zero_entry, free_page, pages_of}
use Rattle.pages.specs.Summary.{in_use}
use Rattle.pages.specs.declared.Entry.{Entry}
use Rattle.pages.specs.declared.Page.{Page}
use Rattle.wellformed.specs.WellFormed.{page, child_of}
use Rattle.rules.specs.Strike.{is_struck, cons_if, select, struck_of, rest, Struck, strike_all, strike_one, strike, strike_page}
use Rattle.split.specs.Split.{page_from}
use Rattle.recording.specs.PageSteps.{kept_more}
use Rattle.recording.specs.TableSteps.{in_use_most}
use Rattle.recording.specs.Views.{Leaves, most_struck, Frees}

-- an entry that names a page: of a struck entry only the child counts
abbrev pub naming : ℕ → Entry
naming c = record { place = zero_box; gust = 0; weakest = 0; child = c; strongest = zero_box; union = zero_box }

pub by_child : (n : ℕ) (ps : List Page) (e : Entry) → strike_one n ps e ≡ strike_one n ps (naming e.child)
unfolding strike_one
by_child zero ps e = refl
by_child (suc n) ps e = refl

all_by_child : (n : ℕ) (ps : List Page) (es : List Entry) → strike_all (strike_one n) ps es ≡ strike_all (strike_one n) ps (map naming (map child_of es))
unfolding strike_all
all_by_child n ps [] = refl
all_by_child n ps (e ∷ es) = rw (by_child n ps e, all_by_child n (strike_one n ps (naming e.child)).pages es)

-- several entries go, and one more
all_more : (one : List Page → Entry → Struck) (ps : List Page) (es : List Entry) (e : Entry)
    → strike_all one ps (es ++ (e ∷ [])) ≡ (let s = strike_all one ps es in let t = one s.pages e in record { pages = t.pages; records = s.records + t.records })
unfolding strike_all
all_more one ps [] e = let z : (one ps e).records + 0 ≡ 0 + (one ps e).records = omega arith in ap (λ k. record { pages = (one ps e).pages; records = k }) z
all_more one ps (x ∷ xs) e =
    let s = one ps x in
    let u = strike_all one s.pages xs in
    let t = one u.pages e in
    let z : s.records + (u.records + t.records) ≡ s.records + u.records + t.records = omega arith in
    ap (λ (w : Struck). record { pages = w.pages; records = s.records + w.records }) (all_more one s.pages xs e) ∙ ap (λ k. record { pages = t.pages; records = k }) z

one_more : (one : List Page → Entry → Struck) (t u w : List ℕ) (k m r : ℕ) (es : List Entry) (e : Entry) → Frees t u k (strike_all one (pages_of t) es) → Frees u w m (one (pages_of u) e) → r ≡ min (k + m) most_struck
    → Frees t w r (strike_all one (pages_of t) (es ++ (e ∷ [])))
one_more one t u w k m r es e f g h =
    let same : one (pages_of u) e ≡ one (strike_all one (pages_of t) es).pages e = ap (λ ps. one ps e) f.pages_are in
    rw (all_more one (pages_of t) es e) (record {
      same_length = g.same_length ∙ f.same_length;
      pages_are = g.pages_are ∙ ap (λ (s : Struck). s.pages) same;
      struck_is = omega (arith, f.struck_is, g.struck_is, ap (λ (s : Struck). s.records) same);
    })

-- a record goes
pub one_record : (n c : ℕ) (t : List ℕ) → n ≡ 0 → Frees t t 1 (strike_one n (pages_of t) (naming c))
unfolding strike_one
one_record n c t z = rw z (record { same_length = refl; pages_are = refl; struck_is = refl })

-- a leaf: every entry is a record
pub all_of_leaf : (ps : List Page) (es : List Entry) → strike_all (strike_one zero) ps es ≡ record { pages = ps; records = length es }
unfolding strike_all strike_one
all_of_leaf ps [] = refl
all_of_leaf ps (e ∷ es) = let h = all_of_leaf ps es in let z : 1 + length es ≡ suc (length es) = omega arith in rw (h, z)

-- the children that are named by the entries in use
pub children_used : (x : Page) (n : ℕ) (cs : List ℕ) → n ≡ length (in_use x) → cs ≡ map child_of x.entries → take n cs ≡ map child_of (in_use x)
children_used x n cs e d = ap (take n) d ∙ take-map child_of n x.entries ∙ ap (map child_of) (⊎_elim few all (below_or_not n x.count))
  where
    few : n < x.count → take n x.entries ≡ in_use x
    few l = take_all n x.entries (omega (arith, length-take x.count x.entries)) ∙ sym (take_all x.count x.entries (omega (arith, length-take x.count x.entries)))

    all : x.count ≤ n → take n x.entries ≡ in_use x
    all l = ap (λ k. take k x.entries) (same l)
      where
        same : x.count ≤ n → n ≡ x.count
        same l = omega (arith, length-take x.count x.entries)

-- those under the children of a page, one after another
pub freed_none : (one : List Page → Entry → Struck) (t : List ℕ) → Frees t t 0 (strike_all one (pages_of t) [])
unfolding strike_all
freed_none one t = record { same_length = refl; pages_are = refl; struck_is = refl }

pub freed_more : (n i k m r c : ℕ) (t u w cs : List ℕ) → i < length cs → c ≡ get_or cs i 0 → Frees t u k (strike_all (strike_one n) (pages_of t) (map naming (take i cs))) → Frees u w m (strike_one n (pages_of u) (naming c)) → r ≡ min (k + m) most_struck
    → Frees t w r (strike_all (strike_one n) (pages_of t) (map naming (take (i + 1) cs)))
freed_more n i k m r c t u w cs l e f g h =
    rw (add-one i, take-suc cs i 0 l, ← e, map-append) (one_more (strike_one n) t u w k m r (map naming (take i cs)) (naming c) f g h)

freed_under : (n k p : ℕ) (t u w cs : List ℕ) → (n ≡ 0 → ⊥) → cs ≡ map child_of (in_use (page (pages_of t) p)) → Frees t u k (strike_all (strike_one (n - 1)) (pages_of t) (map naming cs)) → Leaves u w (set (pages_of u) p free_page)
    → Frees t w k (strike_one n (pages_of t) (naming p))
unfolding strike_one
freed_under zero k p t u w cs d e f l = absurd (d refl)
freed_under (suc n) k p t u w cs d e f l =
    let z : suc n - 1 ≡ n = omega arith in
    let g : Frees t u k (strike_all (strike_one n) (pages_of t) (map naming cs)) = rw z at f in
    let same : strike_all (strike_one n) (pages_of t) (map naming cs) ≡ strike_all (strike_one n) (pages_of t) (in_use (page (pages_of t) p)) =
    ap (λ xs. strike_all (strike_one n) (pages_of t) (map naming xs)) e ∙ sym (all_by_child n (pages_of t) (in_use (page (pages_of t) p))) in
    record {
      same_length = l.same_length ∙ g.same_length;
      pages_are = l.pages_are ∙ ap (λ ps. set ps p free_page) (g.pages_are ∙ ap (λ (s : Struck). s.pages) same);
      struck_is = g.struck_is ∙ ap (λ (s : Struck). min s.records most_struck) same;
    }

pub freed_all : (n k i c p : ℕ) (t u w cs : List ℕ) → (n ≡ 0 → ⊥) → p ≡ c → cs ≡ map child_of (in_use (page (pages_of t) p)) → length cs ≤ i → Frees t u k (strike_all (strike_one (n - 1)) (pages_of t) (map naming (take i cs)))
    → Leaves u w (set (pages_of u) p free_page) → Frees t w k (strike_one n (pages_of t) (naming c))
freed_all n k i c p t u w cs d s e m f l = rw (← s) (freed_under n k p t u w cs d e (rw (take_all i cs m) at f) l)

-- a leaf goes: its records are as many as it has in use
pub leaf_freed : (n k c p : ℕ) (t w : List ℕ) → n ≡ 1 → p ≡ c → k ≡ length (in_use (page (pages_of t) p)) → k ≤ page_entries → Leaves t w (set (pages_of t) p free_page) → Frees t w k (strike_one n (pages_of t) (naming c))
leaf_freed n k c p t w one s e m l =
    let cs = map child_of (in_use (page (pages_of t) p)) in
    let all = all_of_leaf (pages_of t) (map naming cs) in
    let long : length (map naming cs) ≡ k = length-map cs naming ∙ length-map (in_use (page (pages_of t) p)) child_of ∙ sym e in
    let freed : Frees t t k (strike_all (strike_one zero) (pages_of t) (map naming cs)) =
    record { same_length = refl; pages_are = sym (ap (λ (x : Struck). x.pages) all); struck_is = omega (arith, long, ap (λ (x : Struck). x.records) all, m) } in
    rw (one, ← s) (freed_under 1 k p t t w cs (λ z. absurd (omega arith)) refl freed l)

-- the children that a page names, read one by one
pub children_read : (x : Page) (cs : List ℕ) → length cs ≡ page_entries → length x.entries ≡ page_entries → ((i : ℕ) → i < page_entries → get_or cs i 0 ≡ (get_or x.entries i zero_entry).child) → cs ≡ map child_of x.entries
children_read x cs long eight each =
    ext_get_or 0 cs (map child_of x.entries) (long ∙ sym eight ∙ sym (length-map x.entries child_of)) (λ i h. each i (omega arith) ∙ sym (get_or-map child_of x.entries i zero_entry 0 (omega arith)))

pub select_more : (f : Entry → Bool) (xs : List Entry) (e : Entry) → select f (xs ++ (e ∷ [])) ≡ select f xs ++ cons_if (f e) e []
unfolding select
select_more f [] e = refl
select_more f (x ∷ xs) e = by_test (f x) (select_more f xs e)
  where
    by_test : (t : Bool) → select f (xs ++ (e ∷ [])) ≡ select f xs ++ cons_if (f e) e [] → cons_if t x (select f (xs ++ (e ∷ []))) ≡ cons_if t x (select f xs) ++ cons_if (f e) e []
    by_test true h = ap (λ ys. x ∷ ys) h
    by_test false h = h

-- the first i entries of a page looked at, and the next
select_next : (f : Entry → Bool) (i : ℕ) (es : List Entry) (e : Entry) → i < length es → e ≡ get_or es i zero_entry → select f (take (i + 1) es) ≡ select f (take i es) ++ cons_if (f e) e []
select_next f i es e l d = rw (add-one i, take-suc es i zero_entry l, ← d) (select_more f (take i es) e)

select_few : (f : Entry → Bool) (es : List Entry) → length (select f es) ≤ length es
unfolding select
select_few f [] = omega arith
select_few f (e ∷ es) = by_test (f e) (select_few f es)
  where
    by_test : (t : Bool) → length (select f es) ≤ length es → length (cons_if t e (select f es)) ≤ suc (length es)
    by_test true h = omega arith
    by_test false h = omega arith

rest_few : (b : Box) (v i : ℕ) (es : List Entry) → length (rest b v (take i es)) ≤ i
rest_few b v i es = omega (arith, select_few (λ e. not (is_struck b v e)) (take i es), length-take i es)

-- after the first i entries of a page: what the struck ones freed, and the rest of them closed up
pub record Striking (n : ℕ) (b : Box) (v level : ℕ) (es : List Entry) (i : ℕ) (t u : List ℕ) (k : ℕ) (y : Page) : Type 0 where
  pub freed : Frees t u k (strike n b v (pages_of t) (take i es))
  pub closed : y ≡ page_from level (rest b v (take i es))

module _ (n : ℕ) (b : Box) (v level : ℕ) (es : List Entry) where
  pub striking_none : (t : List ℕ) (y : Page) → y ≡ free_page → Striking n b v level es 0 t t 0 (record { level = level; count = y.count; entries = y.entries })
  unfolding strike strike_all select page_from
  striking_none t y e =
      record { freed = record { same_length = refl; pages_are = refl; struck_is = refl }; closed = ap (λ (x : Page). record { level = level; count = x.count; entries = x.entries }) e }

  module _ (i k : ℕ) (t u : List ℕ) (y : Page) (l : i < length es) (h : Striking n b v level es i t u k y) where
    abbrev e : Entry
    e = get_or es i zero_entry

    pub striking_struck : (m r : ℕ) (w : List ℕ) (z : Page) → is_struck b v (get_or es i zero_entry) ≡ true → Frees u w m (strike_one n (pages_of u) (naming (get_or es i zero_entry).child)) → r ≡ min (k + m) most_struck → z ≡ y
        → Striking n b v level es (i + 1) t w r z
    unfolding strike
    striking_struck m r w z q g s d =
        let o : Frees u w m (strike_one n (pages_of u) e) = rw (by_child n (pages_of u) e) g in
        let next : struck_of b v (take (i + 1) es) ≡ struck_of b v (take i es) ++ (e ∷ []) = select_next (is_struck b v) i es e l refl ∙ ap (λ c. struck_of b v (take i es) ++ cons_if c e []) q in
        let same : rest b v (take (i + 1) es) ≡ rest b v (take i es) = select_next (λ x. not (is_struck b v x)) i es e l refl ∙ ap (λ c. rest b v (take i es) ++ cons_if (not c) e []) q ∙ append-nil (rest b v (take i es)) in
        record {
          freed = rw next (one_more (strike_one n) t u w k m r (struck_of b v (take i es)) e h.freed o s);
          closed = d ∙ h.closed ∙ ap (page_from level) (sym same);
        }

    pub rest_has_room : length es ≤ page_entries → y.count < page_entries
    unfolding page_from
    rest_has_room m = omega (arith, ap (λ (x : Page). x.count) h.closed, rest_few b v i es)

    pub striking_kept : (w : List ℕ) (r c : ℕ) (z : Page) → length es ≤ page_entries → is_struck b v (get_or es i zero_entry) ≡ false → c ≡ y.count → z ≡ record { level = y.level; count = y.count + 1; entries = set y.entries c (get_or es i zero_entry) } → w ≡ u → r ≡ k
        → Striking n b v level es (i + 1) t w r z
    unfolding strike
    striking_kept w r c z few q d f same_table same_count =
        let next : struck_of b v (take (i + 1) es) ≡ struck_of b v (take i es) = select_next (is_struck b v) i es e l refl ∙ ap (λ c. struck_of b v (take i es) ++ cons_if c e []) q ∙ append-nil (struck_of b v (take i es)) in
        let more : rest b v (take (i + 1) es) ≡ rest b v (take i es) ++ (e ∷ []) = select_next (λ x. not (is_struck b v x)) i es e l refl ∙ ap (λ c. rest b v (take i es) ++ cons_if (not c) e []) q in
        let at : z ≡ record { level = y.level; count = y.count + 1; entries = set y.entries y.count e } = rw d at f in
        record {
          freed = rw (next, same_table, same_count) h.freed;
          closed = at ∙ kept_more level (rest b v (take i es)) e y h.closed (omega (arith, rest_few b v i es)) ∙ ap (page_from level) (sym more);
        }

-- a page closed up and stored after its strikes
pub page_struck : (n : ℕ) (b : Box) (v p k i m c : ℕ) (t u w : List ℕ) (x y : Page) → x ≡ page (pages_of t) p → length x.entries ≡ page_entries → m ≡ min c page_entries → c ≡ x.count → length (take m x.entries) ≤ i → Striking n b v x.level (take m x.entries) i t u k y
    → Leaves u w (set (pages_of u) p y) → Frees t w k (strike_page n b v (pages_of t) p)
page_struck n b v p k i m c t u w x y e eight d f past h l =
    let es : take i (take m x.entries) ≡ in_use x = take_all i (take m x.entries) past ∙ in_use_most x.count x.entries m eight c d f in
    let freed : Frees t u k (strike n b v (pages_of t) (in_use x)) = rw es at h.freed in
    let closed : y ≡ page_from x.level (rest b v (in_use x)) = rw es at h.closed in
    rw (← e) (record { same_length = l.same_length ∙ freed.same_length; pages_are = l.pages_are ∙ ap₂ (λ qs z. set qs p z) freed.pages_are closed; struck_is = freed.struck_is })
