-- On a well-formed book a legal box is never refused, the answer is the box-max over the held records, and no more pages are opened than the root and the other pages whose boxes touch.
use Prim.Native.Nat.{ℕ, zero, suc, ◌+◌, max, ◌≤◌, ◌<◌}
use Rattle.std.specs.Prelude.{Bool, true, ◌||◌, not, ◌↔◌, ◌≡◌, leb, length, drop}
use Rattle.std.proofs.Math.Bool.{false, cond}
use mathlib.Core.List.{List, [], ◌∷◌}
use Rattle.std.proofs.Math.Path.{refl, ap}
use Rattle.std.proofs.Common.{sym, ◌∙◌, subst, length-take-le}
use native.Mathlib.Omega.{arith}
use borrow.Author.Tests.{leb-true, leb-false, eq-eqb, ne_eqb}
use Rattle.ground.specs.Boxes.{touches, covers, legal}
use Rattle.ground.specs.Tests.{both}
use Rattle.ground.specs.declared.boxes.Box.{Box}
use Rattle.pages.specs.Layout.{table_fits, pages_of}
use Rattle.pages.specs.Summary.{in_use, is_leaf, record_box, covering, summary, summary_of}
use Rattle.pages.specs.declared.Entry.{Entry}
use Rattle.pages.specs.declared.Page.{Page}
use Rattle.pages.specs.declared.Small.{Small}
use Rattle.wellformed.specs.Counting.{sum_of}
use Rattle.wellformed.specs.WellFormed.{page, walk, held_records, least_count, pages_stand, well_formed}
use Rattle.asking.specs.Asking.{Search, found, raised, answers, step, follow, search_entry, search_record, search_one, in_order, may_open, search_opened, search_page, least_root, search_book, answered, asked, says}
use Rattle.asking.specs.Turns.{may_so}
use Rattle.asking.specs.BoxMax.{greatest, score, box_max, page_touches, other_pages, touching_pages}
use Rattle.asking.specs.ExactEntries.{All, all_map, score_touches, score_none, none_touches, nothing_so, Tells, record_tells, entries_tell, tells_none, tells_most, tells_touched, tells_covered}
use Rattle.asking.specs.SoundBook.{Standing, Sound, book, sound_root, root_count, reached_length}
use Rattle.asking.specs.BelowPages.{records_below, sum_over, sum_none, leaf_below, leaf_others, index_below, index_others, walk_others}
use Rattle.asking.specs.declared.search.Step.TheVariants.{Pass, Raise, Open}

-- a search that is not refused, has this best, and opened at most so many pages
pub record Outcome (s : Search) (best most : ℕ) : Type 0 where
  pub opened : ℕ
  pub same : s ≡ found best opened
  pub bound : opened ≤ most

-- entries in order: each gives the best below it for at most its own pages, while the table has that many left
module _ (limit : ℕ) (f : Entry → Search → Search) (best cost : Entry → ℕ) where
  abbrev Found : Entry → Type 0
  Found e = (b o : ℕ) → o + cost e ≤ limit → Outcome (f e (found b o)) (max b (best e)) (o + cost e)

  all_found : (es : List Entry) → All Found es → (b o : ℕ) → o + sum_over cost es ≤ limit → Outcome (in_order f es (found b o)) (max b (greatest best es)) (o + sum_over cost es)
  unfolding in_order greatest sum_over
  all_found [] h b o l = record { opened = o; same = ap (λ m. found m o) (omega arith); bound = omega arith }
  all_found (e ∷ es) h b o l =
      let x = h.0 b o (omega arith) in
      let w = x.bound in
      let y = all_found es h.1 (max b (best e)) x.opened (omega arith) in
      let m : max (max b (best e)) (greatest best es) ≡ max b (max (best e) (greatest best es)) = omega arith in
      record {
        opened = y.opened;
        same = ap (in_order f es) x.same ∙ y.same ∙ ap (λ v. found v y.opened) m;
        bound = omega (arith, y.bound);
      }

-- a record of a leaf
record_found : (limit : ℕ) (q : Box) (e : Entry) (b o : ℕ) → o + 0 ≤ limit → Outcome (search_record q e (found b o)) (max b (score q e.place e.gust)) (o + 0)
unfolding search_record raised
record_found limit q e b o l = by_test (touches q e.place) refl
  where
    by_test : (t : Bool) → touches q e.place ≡ t → Outcome (found (cond t (max b (e.gust + 1)) b) o) (max b (score q e.place e.gust)) (o + 0)
    by_test true h = record { opened = o; same = ap (λ v. found v o) (rw (score_touches q e.place e.gust h)); bound = omega arith }
    by_test false h = record { opened = o; same = ap (λ v. found v o) (rw (score_none q e.place e.gust h) (omega arith)); bound = omega arith }

-- an index entry: passed over, answered by its strongest record, or its page is opened
module _ (limit : ℕ) (lower : ℕ → ℕ → ℕ → Search) (q : Box) (e : Entry) (best others : ℕ) (h : Tells q e.place e.strongest e.gust best) where
  entry_found : ((b o : ℕ) → o + (1 + others) ≤ limit → Outcome (lower e.child b o) (max b best) (o + (1 + others)))
      → (b o : ℕ) → o + (cond (touches q e.place) 1 0 + others) ≤ limit → Outcome (search_entry lower q e (found b o)) (max b best) (o + (cond (touches q e.place) 1 0 + others))
  unfolding search_entry step follow
  entry_found k b o l = by_touch (touches q e.place) refl (leb (e.gust + 1) b) refl l
    where
      opens : (b o : ℕ) → Search
      opens b o = lower e.child b o

      raises : e.gust + 1 ≡ best → b < e.gust + 1 → Outcome (found (e.gust + 1) o) (max b best) (o + (1 + others))
      raises p g = record { opened = o; same = ap (λ v. found v o) (omega arith); bound = omega arith }

      by_answer : (t c : Bool) → touches q e.strongest ≡ t → covers q e.place ≡ c → b < e.gust + 1 → o + (1 + others) ≤ limit → Outcome (follow lower (cond (t || c) (Raise e.gust) (Open e.child)) b o) (max b best) (o + (1 + others))
      by_answer true c p r g m = raises (sym (tells_touched q e.place e.strongest e.gust best h p)) g
      by_answer false true p r g m = raises (sym (tells_covered q e.place e.strongest e.gust best h r)) g
      by_answer false false p r g m = k b o m

      by_touch : (t : Bool) → touches q e.place ≡ t → (g : Bool) → leb (e.gust + 1) b ≡ g → o + (cond t 1 0 + others) ≤ limit → Outcome (follow lower (cond (not t || g) Pass (cond (answers q e) (Raise e.gust) (Open e.child))) b o) (max b best) (o + (cond t 1 0 + others))
      by_touch false p g r m = record { opened = o; same = ap (λ v. found v o) (omega (arith, tells_none q e.place e.strongest e.gust best h p)); bound = omega arith }
      by_touch true p true r m = record { opened = o; same = ap (λ v. found v o) (omega (arith, tells_most q e.place e.strongest e.gust best h, leb-true (e.gust + 1) b r)); bound = omega arith }
      by_touch true p false r m = by_answer (touches q e.strongest) (covers q e.place) refl refl (leb-false (e.gust + 1) b r) m

module _ (ps : List Page) (q : Box) where
  -- the best of the records below page p of level n, and how many other pages below it touch
  abbrev best_below : ℕ → ℕ → ℕ
  best_below n p = box_max q (records_below ps n p)

  abbrev others_below : ℕ → ℕ → ℕ
  others_below n p = touching_pages ps q (drop 1 (walk ps n p))

  in_use_lem : (n p : ℕ) → Standing ps n p → 1 ≤ (page ps p).count → 0 < length (in_use (page ps p))
  in_use_lem n p h c = let l = length-take-le (page ps p).count (page ps p).entries (omega (arith, h.few, h.eight)) in omega arith

  -- the summary of a sound page tells the best below it
  abbrev PageTells : ℕ → ℕ → Type 0
  PageTells n p = Tells q (summary_of p (page ps p)).place (summary_of p (page ps p)).strongest (summary_of p (page ps p)).gust (best_below n p)

  page_tells : (n p : ℕ) → Sound ps n p → 1 ≤ (page ps p).count → PageTells n p
  unfolding summary_of summary
  page_tells zero p h c = absurd h
  page_tells (suc zero) p h c =
      let l = h.0.same in
      rw (leaf_below ps p (λ e. score q e.place e.gust) l)
      (entries_tell q (page ps p).level (λ e. score q e.place e.gust) (in_use (page ps p)) (in_use_lem 1 p h.0 c)
      (all_map (λ e. legal e.place ≡ true) (λ e. Tells q e.place (record_box (page ps p).level e) e.gust (score q e.place e.gust)) (in_use (page ps p)) (λ e m. rw l (record_tells q e.place e.gust m)) h.1))
  page_tells (suc (suc n)) p h c =
      let l = h.0.same in
      let i : is_leaf (page ps p).level ≡ false = ne_eqb (page ps p).level 1 (λ e. omega arith) in
      rw (index_below ps p (λ e. score q e.place e.gust) (suc n) (omega arith))
      (entries_tell q (page ps p).level (λ e. best_below (suc n) e.child) (in_use (page ps p)) (in_use_lem (suc (suc n)) p h.0 c)
      (all_map (λ e. (e ≡ summary_of e.child (page ps e.child)) × (1 ≤ (page ps e.child).count) × Sound ps (suc n) e.child) (λ e. Tells q e.place (record_box (page ps p).level e) e.gust (best_below (suc n) e.child)) (in_use (page ps p))
      (λ e m. rw i (subst (λ (x : Entry). Tells q x.place x.strongest x.gust (best_below (suc n) e.child)) (sym m.0) (page_tells (suc n) e.child m.2 m.1))) h.1))

  may : (n p least o : ℕ) → Standing ps (suc n) p → least ≤ (page ps p).count → o < length ps → may_open ps (suc n) least p o ≡ true
  may n p least o h c l = may_so ps (suc n) least p o (record { inside = h.inside; some = omega arith; same = h.same; least_count_lem = c; few = h.few; left = l })

  -- an exact entry's box is its page's box
  page_touches_lem : (e : Entry) → e ≡ summary_of e.child (page ps e.child) → page_touches ps q e.child ≡ cond (touches q e.place) 1 0
  unfolding page_touches summary_of summary
  page_touches_lem e h = ap (λ (x : Entry). cond (touches q x.place) 1 0) (sym h)

  -- the search of a sound page
  abbrev Searched : ℕ → ℕ → ℕ → ℕ → ℕ → Type 0
  Searched n p least b o = Outcome (search_page ps q n least p b o) (max b (best_below n p)) (o + (1 + others_below n p))

  abbrev EntrySound : ℕ → Entry → Type 0
  EntrySound n e = (e ≡ summary_of e.child (page ps e.child)) × (1 ≤ (page ps e.child).count) × Sound ps n e.child

  leaf_found : (p b o : ℕ) → Sound ps 1 p → o + (1 + others_below 1 p) ≤ length ps → Outcome (in_order (search_record q) (in_use (page ps p)) (found b (o + 1))) (max b (best_below 1 p)) (o + (1 + others_below 1 p))
  leaf_found p b o h l =
      let z = leaf_others ps p (page_touches ps q) h.0.same in
      let n = sum_none (in_use (page ps p)) in
      let x =
      all_found (length ps) (search_record q) (λ e. score q e.place e.gust) (λ e. 0) (in_use (page ps p))
      (all_map (λ e. legal e.place ≡ true) (Found (length ps) (search_record q) (λ e. score q e.place e.gust) (λ e. 0)) (in_use (page ps p)) (λ e m. record_found (length ps) q e) h.1)
      b (o + 1) (omega arith) in
      let w = x.bound in
      rw (leaf_below ps p (λ e. score q e.place e.gust) h.0.same)
      (record { opened = x.opened; same = x.same; bound = omega arith })

  child_found : (n : ℕ) (e : Entry) → EntrySound (suc n) e → ((b o : ℕ) → o + (1 + others_below (suc n) e.child) ≤ length ps → Searched (suc n) e.child 1 b o)
      → Found (length ps) (search_entry (search_page ps q (suc n) 1) q) (λ e. best_below (suc n) e.child) (λ e. touching_pages ps q (walk ps (suc n) e.child)) e
  child_found n e m k =
      rw (walk_others ps e.child (page_touches ps q) n, page_touches_lem e m.0)
      (entry_found (length ps) (search_page ps q (suc n) 1) q e (best_below (suc n) e.child) (others_below (suc n) e.child)
      (subst (λ (x : Entry). Tells q x.place x.strongest x.gust (best_below (suc n) e.child)) (sym m.0) (page_tells (suc n) e.child m.2 m.1))
      k)

  index_found : (n p b o : ℕ) → Sound ps (suc (suc n)) p → ((c b o : ℕ) → Sound ps (suc n) c → 1 ≤ (page ps c).count → o + (1 + others_below (suc n) c) ≤ length ps → Searched (suc n) c 1 b o)
      → o + (1 + others_below (suc (suc n)) p) ≤ length ps → Outcome (in_order (search_entry (search_page ps q (suc n) 1) q) (in_use (page ps p)) (found b (o + 1))) (max b (best_below (suc (suc n)) p)) (o + (1 + others_below (suc (suc n)) p))
  index_found n p b o h k l =
      let y = h.0.same in
      let z = index_others ps p (page_touches ps q) (suc n) (omega arith) in
      let x =
      all_found (length ps) (search_entry (search_page ps q (suc n) 1) q) (λ e. best_below (suc n) e.child) (λ e. touching_pages ps q (walk ps (suc n) e.child)) (in_use (page ps p))
      (all_map (EntrySound (suc n)) (Found (length ps) (search_entry (search_page ps q (suc n) 1) q) (λ e. best_below (suc n) e.child) (λ e. touching_pages ps q (walk ps (suc n) e.child))) (in_use (page ps p))
      (λ e m. child_found n e m (λ b o l. k e.child b o m.2 m.1 l)) h.1)
      b (o + 1) (omega (arith, z)) in
      let w = x.bound in
      rw (index_below ps p (λ e. score q e.place e.gust) (suc n) (omega arith))
      (record { opened = x.opened; same = x.same; bound = omega (arith, z) })

  -- a page that may be opened is searched as its entries in order
  opens_leaf : (p least b o : ℕ) → may_open ps 1 least p o ≡ true → search_page ps q 1 least p b o ≡ in_order (search_record q) (in_use (page ps p)) (found b (o + 1))
  unfolding search_page search_opened search_one
  opens_leaf p least b o h = rw h

  opens_index : (n p least b o : ℕ) → may_open ps (suc (suc n)) least p o ≡ true → search_page ps q (suc (suc n)) least p b o ≡ in_order (search_entry (search_page ps q (suc n) 1) q) (in_use (page ps p)) (found b (o + 1))
  unfolding search_page search_opened search_one
  opens_index n p least b o h = rw h

  page_found : (n p least b o : ℕ) → Sound ps n p → least ≤ (page ps p).count → o + (1 + others_below n p) ≤ length ps → Searched n p least b o
  page_found zero p least b o h c l = absurd h
  page_found (suc zero) p least b o h c l = rw (opens_leaf p least b o (may 0 p least o h.0 c (omega arith))) (leaf_found p b o h l)
  page_found (suc (suc n)) p least b o h c l =
      rw (opens_index n p least b o (may (suc n) p least o h.0 c (omega arith)))
      (index_found n p b o h (λ x d e s k m. page_found (suc n) x 1 d e s k m) l)

-- the root's own count, and the pages that touch, fit the table
sum_most : (f : ℕ → ℕ) → ((p : ℕ) → f p ≤ 1) → (xs : List ℕ) → sum_of f xs ≤ length xs
unfolding sum_of
sum_most f h [] = omega arith
sum_most f h (x ∷ xs) = let k = sum_most f h xs in omega (arith, h x)

touches_once : (ps : List Page) (q : Box) (p : ℕ) → page_touches ps q p ≤ 1
unfolding page_touches
touches_once ps q p = by_test (touches q (covering (in_use (page ps p))))
  where
    by_test : (b : Bool) → cond b 1 0 ≤ 1
    by_test true = omega arith
    by_test false = omega arith

least_root_lem : (s : Small) (c : ℕ) → least_count s s.root s.height ≤ c → least_root s.height ≤ c
least_root_lem s c h = by_leaf (is_leaf s.height) (subst (λ b. cond b (cond (is_leaf s.height) 0 2) 1 ≤ c) (eq-eqb s.root s.root refl) h)
  where
    by_leaf : (b : Bool) → cond b 0 2 ≤ c → cond b 0 1 ≤ c
    by_leaf true k = k
    by_leaf false k = omega arith

walk_length : (ps : List Page) (n p : ℕ) → 1 ≤ n → length (walk ps n p) ≡ 1 + length (drop 1 (walk ps n p))
unfolding walk
walk_length ps zero p h = absurd (omega arith)
walk_length ps (suc n) p h = omega arith

module _ (t : List ℕ) (s : Small) (q : Box) (w : well_formed t s ≡ true) where
  -- the search of a well-formed book
  pub book_found : Outcome (search_book (pages_of t) s q) (box_max q (held_records (pages_of t) s)) (1 + touching_pages (pages_of t) q (other_pages (pages_of t) s))
  unfolding search_book held_records records_below
  book_found =
      let ps = pages_of t in
      let k = book t s w in
      let o = k.high in
      let m = sum_most (page_touches ps q) (touches_once ps q) (other_pages ps s) in
      let l = walk_length ps s.height s.root o in
      let r = reached_length ps s k in
      let x = page_found ps q s.height s.root (least_root s.height) 0 0 (sound_root ps s k) (least_root_lem s (page ps s.root).count (root_count ps s k)) (omega arith) in
      let b = x.bound in
      record { opened = x.opened; same = x.same ∙ ap (λ v. found v x.opened) (omega arith); bound = omega arith }

  answers_so : legal q ≡ true → asked t s q ≡ answered (search_book (pages_of t) s q)
  unfolding asked well_formed
  answers_so h = rw ((both (table_fits t) (pages_stand (pages_of t) s) w).0, h)

  -- a legal box is never refused
  pub never_refused : legal q ≡ true → (says (asked t s q)).refusal ≡ 0
  unfolding answered
  never_refused h = rw (answers_so h, book_found.same) (by_best (box_max q (held_records (pages_of t) s)))
    where
      by_best : (b : ℕ) → (says (answered (found b book_found.opened))).refusal ≡ 0
      by_best zero = refl
      by_best (suc v) = refl

  -- the answer is the box-max of the held records
  pub answer_is_box_max : legal q ≡ true → (says (asked t s q)).best ≡ box_max q (held_records (pages_of t) s)
  unfolding answered
  answer_is_box_max h = rw (answers_so h, book_found.same) (by_best (box_max q (held_records (pages_of t) s)))
    where
      by_best : (b : ℕ) → (says (answered (found b book_found.opened))).best ≡ b
      by_best zero = refl
      by_best (suc v) = omega arith

  -- Nothing exactly if no held record touches
  pub nothing_exactly : legal q ≡ true → ((says (asked t s q)).best ≡ 0) ↔ All (λ e. touches q e.place ≡ false) (held_records (pages_of t) s)
  nothing_exactly h =
      (λ e. none_touches q (held_records (pages_of t) s) (sym (answer_is_box_max h) ∙ e), λ k. answer_is_box_max h ∙ nothing_so q (held_records (pages_of t) s) k)

  -- the pages opened: the root, and others only if their boxes touch
  pub pages_touching : legal q ≡ true → (says (asked t s q)).pages ≤ 1 + touching_pages (pages_of t) q (other_pages (pages_of t) s)
  unfolding answered
  pages_touching h = rw (answers_so h, book_found.same) (by_best (box_max q (held_records (pages_of t) s)))
    where
      by_best : (b : ℕ) → (says (answered (found b book_found.opened))).pages ≤ 1 + touching_pages (pages_of t) q (other_pages (pages_of t) s)
      by_best zero = book_found.bound
      by_best (suc v) = book_found.bound
