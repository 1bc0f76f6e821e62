-- Storing at most nine entries in a page: it stands, or it is split and the second group takes the lowest free page. Both pages' entries show what was given.
use Rattle.std.specs.Prelude.{false, ◌≡◌, refl, ℕ, suc, ◌+◌, ◌≤◌, ◌<◌, length}
use mathlib.Core.List.{List, [], ◌∷◌, flat_map}
use Rattle.std.proofs.Common.{sym, ◌∙◌, ne_eqb, get_or-set_same}
use Rattle.std.proofs.Math.Path.{ap}
use native.Mathlib.Omega.{arith}
use Rattle.std.proofs.Math.ListN.{set}
use Rattle.pages.specs.Free.{is_free}
use Rattle.pages.specs.Layout.{free_page, page_entries}
use Rattle.pages.specs.Summary.{in_use, summary, summary_of}
use Rattle.pages.specs.declared.Entry.{Entry}
use Rattle.pages.specs.declared.Page.{Page}
use Rattle.split.specs.Split.{page_from}
use Rattle.split.specs.SplitLaws.{weigh, Each, weigh_append, page_from_in_use}
use Rattle.wellformed.specs.WellFormed.{page}
use Rattle.rules.specs.Frame.{loads, root_load, root_records, Unchanged, loads_unchanged, records_unchanged, sound_unchanged, frame}
use Rattle.rules.specs.Moves.{Pages, Apart, Moved, beside, again, write}
use Rattle.rules.specs.Recording.{Became, Became.stands, Became.split, Walked}
use Rattle.rules.specs.Scan.{Sought}
use Rattle.rules.specs.Tree.{load, records, Stands, Sound}

-- A page's entry in its parent.
abbrev pub handle : List Page → ℕ → Entry
handle ps p = summary_of p (page ps p)

pub handle_sound : (ps : List Page) (n p : ℕ) → Stands ps n p (Sound ps n) → 1 ≤ length (in_use (page ps p)) → Sound ps (suc n) (handle ps p)
unfolding summary_of summary
handle_sound ps n p h k = record { stands = h; some = k; exact = refl }

pub handle_load : (ps : List Page) (n p : ℕ) (h : ℕ → ℕ) → load ps h (suc n) (handle ps p) ≡ h p + loads ps n (in_use (page ps p)) h
unfolding load summary_of summary
handle_load ps n p h = refl

pub handle_records : (ps : List Page) (n p : ℕ) → records ps (suc n) (handle ps p) ≡ flat_map (records ps n) (in_use (page ps p))
unfolding records summary_of summary
handle_records ps n p = refl

-- A page's own entry alone stands for the tree at it.
module _ (ps : List Page) (n p : ℕ) where
  pub one_load : (h : ℕ → ℕ) → loads ps (suc n) (handle ps p ∷ []) h ≡ root_load ps n p h
  unfolding weigh
  one_load h = let a = handle_load ps n p h in omega arith

  pub one_records : (g : Entry → ℕ) → weigh g (flat_map (records ps (suc n)) (handle ps p ∷ [])) ≡ weigh g (root_records ps n p)
  unfolding weigh flat_map
  one_records g = let a = ap (weigh g) (handle_records ps n p) in omega (arith, weigh_append g (records ps (suc n) (handle ps p)) [])

  pub record Alone : Type 0 where
    pub tree : Stands ps n p (Sound ps n)
    pub some : 1 ≤ length (in_use (page ps p))

  pub alone : Sound ps (suc n) (handle ps p) → Alone
  unfolding summary_of summary
  alone h = record { tree = h.stands; some = h.some }

-- The entries for the parent, by what became of page p.
abbrev pub Handles : List Page → ℕ → Became → List Entry → Type 0
Handles ps p stands hs = hs ≡ handle ps p ∷ []
Handles ps p (split q) hs = hs ≡ handle ps p ∷ handle ps q ∷ []

pub record Settled (n : ℕ) (ps : List Page) (p : ℕ) (es : List Entry) (w : Walked) : Type 0 where
  pub handles : List Entry
  pub shape : Handles w.pages p w.became handles
  pub sound : Each (Sound w.pages (suc n)) handles
  pub moved : Moved ps w.pages (λ h. h p + loads ps n es h) (loads w.pages (suc n) handles) 1
  pub same_records : (g : Entry → ℕ) → weigh g (flat_map (records w.pages (suc n)) handles) ≡ weigh g (flat_map (records ps n) es)

-- A page may be written where it is in use and its entries are sound.
pub record Ready (n : ℕ) (ps : List Page) (p : ℕ) (es : List Entry) : Type 0 where
  pub inside : p < length ps
  pub busy : is_free (page ps p) ≡ false
  pub apart : Apart ps (λ h. h p + loads ps n es h)
  pub sound : Each (Sound ps n) es
  pub some : 1 ≤ length es

pub in_use_not_free : (n : ℕ) (es : List Entry) → is_free (page_from (suc n) es) ≡ false
unfolding page_from
in_use_not_free n es = ne_eqb (suc n) 0 (λ e. omega arith)

-- a page just written shows its entries
module _ (n : ℕ) (ps : List Page) (p : ℕ) (es : List Entry) (inside : p < length ps) (own : Pages) (k : ℕ)
    (m : Moved ps (set ps p (page_from (suc n) es)) own (λ h. h p) k) (apart : Apart ps (λ h. own h + loads ps n es h))
    (sound : Each (Sound ps n) es) (most : length es ≤ page_entries) where
  qs : List Page
  qs = set ps p (page_from (suc n) es)

  put_page_lem : page (set ps p (page_from (suc n) es)) p ≡ page_from (suc n) es
  put_page_lem = get_or-set_same ps p (page_from (suc n) es) free_page inside

  pub put_entries : in_use (page (set ps p (page_from (suc n) es)) p) ≡ es
  put_entries = ap in_use put_page_lem ∙ page_from_in_use (suc n) es

  pub put_unchanged : Each (Unchanged ps (set ps p (page_from (suc n) es)) n) es
  put_unchanged = frame ps (set ps p (page_from (suc n) es)) own (λ h. h p) k m (loads ps n es) apart n es sound (λ q. omega arith)

  pub put_stands : Stands (set ps p (page_from (suc n) es)) n p (Sound (set ps p (page_from (suc n) es)) n)
  put_stands =
      record {
        inside = let l = m.same_length in omega arith;
        form = put_page_lem ∙ ap (page_from (suc n)) (sym put_entries);
        most = rw put_entries most;
        each = rw put_entries (sound_unchanged ps (set ps p (page_from (suc n) es)) n es put_unchanged);
      }

  pub put_sound : 1 ≤ length es → Sound (set ps p (page_from (suc n) es)) (suc n) (handle (set ps p (page_from (suc n) es)) p)
  put_sound some = handle_sound (set ps p (page_from (suc n) es)) n p put_stands (rw put_entries some)

  pub put_load : (h : ℕ → ℕ) → load (set ps p (page_from (suc n) es)) h (suc n) (handle (set ps p (page_from (suc n) es)) p) ≡ h p + loads ps n es h
  put_load h =
      handle_load (set ps p (page_from (suc n) es)) n p h
      ∙ ap (λ (l : List Entry). h p + loads (set ps p (page_from (suc n) es)) n l h) put_entries
      ∙ ap (λ (x : ℕ). h p + x) (loads_unchanged ps (set ps p (page_from (suc n) es)) n es put_unchanged h)

  pub put_records : records (set ps p (page_from (suc n) es)) (suc n) (handle (set ps p (page_from (suc n) es)) p) ≡ flat_map (records ps n) es
  put_records =
      handle_records (set ps p (page_from (suc n) es)) n p
      ∙ ap (flat_map (records (set ps p (page_from (suc n) es)) n)) put_entries
      ∙ records_unchanged ps (set ps p (page_from (suc n) es)) n es put_unchanged

module _ (n : ℕ) (ps : List Page) (p : ℕ) (es : List Entry) (r : Ready n ps p es) where
  -- one page
  written : length es ≤ page_entries → Moved ps (set ps p (page_from (suc n) es)) (λ h. h p) (λ h. h p) 0
  written most = write ps p (page_from (suc n) es) r.inside r.busy (in_use_not_free n es)

  pub store_law : (s : Sought) (k : ℕ) → length es ≤ page_entries → Settled n ps p es (record { pages = set ps p (page_from (suc n) es); became = stands; sought = s; struck = k })
  unfolding weigh flat_map
  store_law s k most =
      let qs = set ps p (page_from (suc n) es) in
      let m = written most in
      let own : Pages = λ h. h p in
      let l = put_load n ps p es r.inside own 0 m r.apart r.sound most in
      let c = put_records n ps p es r.inside own 0 m r.apart r.sound most in
      let b = beside ps qs own own 0 m (loads ps n es) in
      let a : Moved ps qs (λ h. h p + loads ps n es h) (loads qs (suc n) (handle qs p ∷ [])) 0 =
      again ps qs (λ h. h p + loads ps n es h) (λ h. h p + loads ps n es h) 0 b (λ h. h p + loads ps n es h) (loads qs (suc n) (handle qs p ∷ [])) (λ h. refl) (λ h. let x = l h in omega arith) in
      record {
        handles = handle qs p ∷ [];
        shape = refl;
        sound = (put_sound n ps p es r.inside own 0 m r.apart r.sound most r.some, tt);
        moved = record { same_length = a.same_length; kept = a.kept; sums = a.sums; clean = a.clean; spent = let x = a.spent in omega arith };
        same_records = λ g. let y = ap (weigh g) c in omega (arith, weigh_append g (records qs (suc n) (handle qs p)) []);
      }
