-- What every step of the walk hands back, and the steps on one page: the strike before it, and a covered record.
use Rattle.std.specs.Prelude.{Some, None, Option, Bool, false, ◌≡◌, refl, ℕ, suc, ◌+◌, max, ◌≤◌, ◌<◌, leb}
use Rattle.std.proofs.Math.Bool.{true, not}
use Rattle.std.proofs.lemmas.Bool.{false≢true}
use mathlib.Core.List.{List, [], ◌∷◌, ◌++◌, flat_map}
use Rattle.std.proofs.Math.Path.{sym, ap, subst}
use Rattle.std.proofs.Common.{◌∙◌, length-append}
use native.Mathlib.Omega.{arith}
use Rattle.std.proofs.Math.ListN.{length, set}
use Rattle.ground.specs.Boxes.{legal, covers, gust_passes}
use Rattle.ground.specs.declared.boxes.Box.{Box}
use Rattle.pages.specs.Free.{is_free, free_count, lowest_free}
use Rattle.pages.specs.Layout.{page_entries}
use Rattle.pages.specs.Summary.{in_use}
use Rattle.pages.specs.Words.{every}
use Rattle.pages.specs.declared.Entry.{Entry}
use Rattle.pages.specs.declared.Page.{Page}
use Rattle.split.specs.Split.{page_from, halves}
use Rattle.split.specs.SplitLaws.{weigh, Each, weigh_append}
use Rattle.wellformed.specs.WellFormed.{page}
use Rattle.rules.specs.Frame.{loads, root_load, root_records, Unchanged, loads_unchanged, records_unchanged, sound_unchanged, frame}
use Rattle.rules.specs.Lists.{best_of, best_parts, best_flat, weigh_flat, select_weigh, select_length}
use Rattle.rules.specs.Moves.{only, only_same, Pages, Apart, Moved, still, moved_apart, beside, again, then, write}
use Rattle.rules.specs.OnePage.{scan_keeps, strike_keeps, sound_rest, sound_struck, rest_unstruck}
use Rattle.rules.specs.Recording.{Became.stands, leaf_entry, Walked, into_page, split_page, settle_by, settle}
use Rattle.rules.specs.Scan.{Sought, scan}
use Rattle.rules.specs.Score.{score}
use Rattle.rules.specs.SettleLaws.{handle, Handles, handle_sound, handle_load, handle_records, one_load, one_records, in_use_not_free, put_entries, put_stands, put_load, put_records}
use Rattle.rules.specs.Strike.{is_struck, struck_of, rest, strike, strike_page}
use Rattle.rules.specs.StrikeLaws.{nothing, Strikes, standing, strike_law}
use Rattle.rules.specs.Tree.{load, records, hit, Stands, Sound, level_of}

-- all records under a list of entries
abbrev pub all_records : List Page → ℕ → List Entry → List Entry
all_records ps n es = flat_map (records ps n) es

-- The record that was kept: none for Covered.
abbrev pub kept_if : Bool → Box → ℕ → List Entry
kept_if true b v = []
kept_if false b v = leaf_entry b v ∷ []

abbrev pub kept : Sought → ℕ → List Entry
kept s v = kept_if s.is_covered s.box v

-- From page p of ps, where `own` are the pages and `held` the records of the tree at p, with s to record and k records struck already, to w, with n levels under the page's entries.
pub record Came (n v : ℕ) (ps : List Page) (p : ℕ) (own : Pages) (held : List Entry) (s : Sought) (k : ℕ) (w : Walked) : Type 0 where
  pub handles : List Entry
  pub shape : Handles w.pages p w.became handles
  -- it shows sound entries
  pub sound : Each (Sound w.pages (suc n)) handles
  -- it moves no page but its own and free ones, and takes at most a page a level
  pub moved : Moved ps w.pages own (loads w.pages (suc n) handles) (suc n)
  -- the records that left are as many as were struck, and but for them and the new one the records are the same
  pub gone : List Entry
  pub counted : w.struck ≡ k + length gone
  pub inside : covers s.box w.sought.box ≡ true
  pub same : (g : Entry → ℕ) → weigh g (all_records w.pages (suc n) handles) + weigh g gone ≡ weigh g held + weigh g (kept w.sought v)
  -- every answer is the greater of the one before and the new record, as handed in
  pub answers : (q : Box) → legal q ≡ true → best_of (hit q) (all_records w.pages (suc n) handles) ≡ max (best_of (hit q) held) (score q s.box v)

abbrev pub CameFrom : ℕ → ℕ → List Page → ℕ → Sought → ℕ → Walked → Type 0
CameFrom n v ps p s k w = Came n v ps p (root_load ps n p) (root_records ps n p) s k w

-- lists with the same sums have the same best
pub best_perm : (f : Entry → ℕ) (xs ys : List Entry) → ((h : Entry → ℕ) → weigh h xs ≡ weigh h ys) → best_of f xs ≡ best_of f ys
unfolding weigh best_of
best_perm f xs ys p = let a = best_parts f xs ys [] (λ h. let b = p h in omega arith) in omega arith

pub weaken : (ps qs : List Page) (own after : Pages) (k l : ℕ) → k ≤ l → Moved ps qs own after k → Moved ps qs own after l
weaken ps qs own after k l h m = record { same_length = m.same_length; kept = m.kept; sums = m.sums; clean = m.clean; spent = let s = m.spent in omega arith }

-- settling hands on what it was given
pub record HandsOn (s : Sought) (k : ℕ) (w : Walked) : Type 0 where
  pub sought : w.sought ≡ s
  pub struck : w.struck ≡ k

pub settle_hands_on : (ps : List Page) (p level : ℕ) (es : List Entry) (s : Sought) (k : ℕ) → HandsOn s k (settle ps p level es s k)
unfolding settle split_page
settle_hands_on ps p level es s k = by_test (leb (length es) page_entries)
  where
    into : (x : Option ℕ) (qs : List Page) (fs : List Entry) → HandsOn s k (into_page x qs level fs s k)
    into (Some q) qs fs = record { sought = refl; struck = refl }
    into None qs fs = record { sought = refl; struck = refl }

    by_test : (b : Bool) → HandsOn s k (settle_by b ps p level es s k)
    by_test true = record { sought = refl; struck = refl }
    by_test false =
        let h = halves es in
        let qs = set ps p (page_from level h.first) in
        into (lowest_free qs) qs h.second

-- What is known before a page's walk.
pub record Before (n v : ℕ) (ps : List Page) (p : ℕ) (s : Sought) : Type 0 where
  pub stands : Stands ps n p (Sound ps n)
  pub apart : Apart ps (root_load ps n p)
  pub lawful : legal s.box ≡ true
  pub passes : gust_passes (record { tenths = v }) ≡ true
  pub fresh : s.is_covered ≡ false
  pub room : suc n ≤ free_count ps

-- The same when its strikes are done.
pub record Begun (n v : ℕ) (ps : List Page) (p : ℕ) (s : Sought) : Type 0 where
  pub before : Before n v ps p s
  pub unstruck : Each (λ e. is_struck s.box v e ≡ false) (in_use (page ps p))

-- What comes of the pages qs comes of ps, where only records that do not exceed the new one are gone between them.
module _ (n v : ℕ) (ps qs : List Page) (p : ℕ) (own after : Pages) (held left gone : List Entry) (s : Sought) (k : ℕ) (w : Walked) where
  pub came_after : Moved ps qs own after 0 → ((g : Entry → ℕ) → weigh g gone + weigh g left ≡ weigh g held)
      → ((q : Box) → max (best_of (hit q) left) (score q s.box v) ≡ max (best_of (hit q) held) (score q s.box v))
      → Came n v qs p after left s (k + length gone) w → Came n v ps p own held s k w
  came_after m parts bests c =
      record {
        handles = c.handles;
        shape = c.shape;
        sound = c.sound;
        moved = weaken ps w.pages own (loads w.pages (suc n) c.handles) (0 + suc n) (suc n) (omega arith) (then ps qs own after 0 m w.pages (loads w.pages (suc n) c.handles) (suc n) c.moved);
        gone = gone ++ c.gone;
        counted = let a = c.counted in omega (arith, length-append gone c.gone);
        inside = c.inside;
        same = λ g. let a = c.same g in let b = parts g in let d = weigh_append g gone c.gone in omega arith;
        answers = λ q l. let a = c.answers q l in let b = bests q in omega arith;
      }

-- Step 1 at a page, and what stands after it.
module _ (n v : ℕ) (ps : List Page) (p : ℕ) (s : Sought) (h : Before n v ps p s) where
  es : List Entry
  es = in_use (page ps p)

  struck : List Entry
  struck = struck_of s.box v es

  left : List Entry
  left = rest s.box v es

  qs : List Page
  qs = (strike n s.box v ps es).pages

  us : List Page
  us = set qs p (page_from (suc n) left)

  parts : (f : Entry → ℕ) → weigh f struck + weigh f left ≡ weigh f es
  unfolding struck left
  parts f = select_weigh (is_struck s.box v) f es

  before_sound : Each (Sound ps n) es
  unfolding es
  before_sound = h.stands.each

  all_apart : Apart ps (λ g. loads ps n struck g + (g p + loads ps n left g))
  unfolding es
  all_apart q = let a = h.apart q in let b = parts (load ps (only q) n) in omega arith

  strikes : Strikes ps (loads ps n struck) (all_records ps n struck) (strike n s.box v ps es)
  unfolding struck
  strikes = strike_law n s.box v ps es (sound_struck ps n v s.box es before_sound) (λ q. let a = all_apart q in omega arith)

  strike_moved : Moved ps qs (loads ps n struck) nothing 0
  unfolding qs
  strike_moved = strikes.moved

  left_unchanged : Each (Unchanged ps qs n) left
  unfolding left
  left_unchanged =
      frame ps qs (loads ps n struck) nothing 0 strike_moved (λ g. g p + loads ps n left g) all_apart n left
      (sound_rest ps n v s.box es before_sound) (λ q. omega arith)

  page_unchanged : page qs p ≡ page ps p
  page_unchanged = strike_moved.kept p (standing ps n p (Sound ps n) h.stands) (let a = all_apart p in let o = only_same p in omega arith)

  after_strike : Moved ps qs (root_load ps n p) (λ g. g p + loads qs n left g) 0
  unfolding es
  after_strike =
      again ps qs (λ g. loads ps n struck g + (g p + loads ps n left g)) (λ g. nothing g + (g p + loads ps n left g)) 0
      (beside ps qs (loads ps n struck) nothing 0 strike_moved (λ g. g p + loads ps n left g))
      (root_load ps n p) (λ g. g p + loads qs n left g)
      (λ g. let b = parts (load ps g n) in omega arith)
      (λ g. let b = loads_unchanged ps qs n left left_unchanged g in omega arith)

  -- the rest closes up
  own : Pages
  own g = g p

  inside : p < length qs
  inside = let a = strike_moved.same_length in let b = h.stands.inside in omega arith

  closed : Moved qs us own own 0
  unfolding us own
  closed = write qs p (page_from (suc n) left) inside (subst (λ (x : Page). is_free x ≡ false) (sym page_unchanged) (standing ps n p (Sound ps n) h.stands)) (in_use_not_free n left)

  left_apart : Apart qs (λ g. own g + loads qs n left g)
  unfolding own
  left_apart = moved_apart ps qs (root_load ps n p) (λ g. g p + loads qs n left g) 0 after_strike h.apart

  left_sound : Each (Sound qs n) left
  left_sound = sound_unchanged ps qs n left left_unchanged

  left_most : length left ≤ page_entries
  unfolding left es
  left_most = let a = select_length (λ e. not (is_struck s.box v e)) (in_use (page ps p)) in let b = h.stands.most in omega arith

  left_there : in_use (page us p) ≡ left
  unfolding us own
  left_there = put_entries n qs p left inside own 0 closed left_apart left_sound left_most

  left_load : (g : ℕ → ℕ) → root_load us n p g ≡ g p + loads qs n left g
  unfolding us own
  left_load g = sym (handle_load us n p g) ∙ put_load n qs p left inside own 0 closed left_apart left_sound left_most g

  left_records : root_records us n p ≡ all_records ps n left
  unfolding us own
  left_records =
      sym (handle_records us n p) ∙ put_records n qs p left inside own 0 closed left_apart left_sound left_most ∙ records_unchanged ps qs n left left_unchanged

  struck_moved : Moved ps us (root_load ps n p) (root_load us n p) (0 + 0)
  unfolding own
  struck_moved =
      then ps qs (root_load ps n p) (λ g. g p + loads qs n left g) 0 after_strike us (root_load us n p) 0
      (again qs us (λ g. own g + loads qs n left g) (λ g. own g + loads qs n left g) 0 (beside qs us own own 0 closed (loads qs n left)) (λ g. g p + loads qs n left g) (root_load us n p) (λ g. refl) left_load)

  begun : Begun n v us p s
  unfolding us own
  begun =
      record {
        before =
            record {
              stands = put_stands n qs p left inside own 0 closed left_apart left_sound left_most;
              apart = moved_apart ps us (root_load ps n p) (root_load us n p) (0 + 0) struck_moved h.apart;
              lawful = h.lawful;
              passes = h.passes;
              fresh = h.fresh;
              room = let a = struck_moved.spent in let b = h.room in omega arith;
            };
        unstruck = subst (Each (λ e. is_struck s.box v e ≡ false)) (sym left_there) (unfold left in rest_unstruck s.box v es);
      }

  came_of_left : (m k : ℕ) (w : Walked) → Came m v us p (root_load us n p) (root_records us n p) s (k + (strike n s.box v ps es).records) w → Came m v ps p (root_load ps n p) (root_records ps n p) s k w
  unfolding es left struck
  came_of_left m k w c =
      came_after m v ps us p (root_load ps n p) (root_load us n p) (root_records ps n p) (root_records us n p) (all_records ps n struck) s k w struck_moved
      (λ g.
      let a = ap (weigh g) left_records in
      let b = weigh_flat (records ps n) g struck in
      let d = weigh_flat (records ps n) g left in
      let e = weigh_flat (records ps n) g es in
      let f = parts (λ x. weigh g (records ps n x)) in
      omega arith)
      (λ q.
      let a = ap (best_of (hit q)) left_records in
      let b = best_flat (records ps n) (hit q) left in
      let d = best_flat (records ps n) (hit q) es in
      let e = strike_keeps ps n v s.box es before_sound q in
      omega arith)
      (subst (λ (j : ℕ). Came m v us p (root_load us n p) (root_records us n p) s (k + j) w) strikes.counted c)

  -- in the words of the rules
  struck_page : (strike_page n s.box v ps p).pages ≡ us
  unfolding us qs left es
  struck_page = ap (λ (l : ℕ). set (strike n s.box v ps (in_use (page ps p))).pages p (page_from l (rest s.box v (in_use (page ps p))))) (level_of ps n p (Sound ps n) h.stands)

  pub strike_begun : Begun n v (strike_page n s.box v ps p).pages p s
  strike_begun = subst (λ (x : List Page). Begun n v x p s) (sym struck_page) begun

  pub strike_left : in_use (page (strike_page n s.box v ps p).pages p) ≡ rest s.box v (in_use (page ps p))
  unfolding left es
  strike_left = ap (λ (x : List Page). in_use (page x p)) struck_page ∙ left_there

  -- what comes of the rest, with m levels under it, comes of the whole
  pub strike_then : (m k : ℕ) (w : Walked) → (let qs = (strike_page n s.box v ps p).pages in Came m v qs p (root_load qs n p) (root_records qs n p) s (k + (strike_page n s.box v ps p).records) w)
      → Came m v ps p (root_load ps n p) (root_records ps n p) s k w
  unfolding es
  strike_then m k w c = came_of_left m k w (subst (λ (x : List Page). Came m v x p (root_load x n p) (root_records x n p) s (k + (strike n s.box v ps (in_use (page ps p))).records) w) struck_page c)

-- A covered record: the page stands as it is.
module _ (n v : ℕ) (ps : List Page) (p : ℕ) (s : Sought) (k : ℕ) (h : Before n v ps p s) where
  pub covered_law : (scan n v (in_use (page ps p)) s).is_covered ≡ true → CameFrom n v ps p s k (record { pages = ps; became = stands; sought = scan n v (in_use (page ps p)) s; struck = k })
  unfolding weigh scan
  covered_law o =
      let t = scan n v (in_use (page ps p)) s in
      let z = scan_keeps ps n v (in_use (page ps p)) s h.stands.each h.fresh in
      record {
        handles = handle ps p ∷ [];
        shape = refl;
        sound = (handle_sound ps n p h.stands (some (in_use (page ps p)) o), tt);
        moved =
            weaken ps ps (root_load ps n p) (loads ps (suc n) (handle ps p ∷ [])) 0 (suc n) (omega arith)
            (again ps ps (root_load ps n p) (root_load ps n p) 0 (still ps (root_load ps n p)) (root_load ps n p) (loads ps (suc n) (handle ps p ∷ [])) (λ g. refl) (one_load ps n p));
        gone = [];
        counted = omega arith;
        inside = z.inside;
        same = λ g. let a = one_records ps n p g in let b : weigh g (kept t v) ≡ 0 = rw o in omega arith;
        answers = λ q l.
            let a = best_perm (hit q) (all_records ps (suc n) (handle ps p ∷ [])) (root_records ps n p) (one_records ps n p) in
            let b = best_flat (records ps n) (hit q) (in_use (page ps p)) in
            let d = z.covered o q l in
            let e = z.kept q l in
            omega arith;
      }
    where
      some : (es : List Entry) → (scan n v es s).is_covered ≡ true → 1 ≤ length es
      some [] e = absurd (false≢true (sym h.fresh ∙ e))
      some (x ∷ es) e = omega arith
