-- An index page: the walk strikes at the chosen child, goes down and comes back, and the child's entry is made exact before the page is settled.
use Rattle.std.specs.Prelude.{true, false, ◌≡◌, refl, get_or}
use mathlib.Core.List.{List, [], ◌∷◌, ◌++◌}
use Rattle.std.proofs.Common.{sym, ◌∙◌}
use Rattle.std.proofs.Math.Path.{ap, subst}
use Prim.Native.Nat.{ℕ, suc, ◌+◌, max, ◌≤◌, ◌<◌}
use native.Mathlib.Omega.{arith}
use Rattle.std.proofs.Math.ListN.{length}
use Rattle.ground.specs.BoxLaws.{covers_trans}
use Rattle.ground.specs.Boxes.{covers}
use Rattle.ground.specs.declared.boxes.Box.{Box}
use Rattle.pages.specs.Free.{is_free}
use Rattle.pages.specs.Layout.{zero_entry}
use Rattle.pages.specs.Summary.{in_use}
use Rattle.pages.specs.declared.Entry.{Entry}
use Rattle.pages.specs.declared.Page.{Page}
use Rattle.split.specs.Split.{without}
use Rattle.split.specs.SplitLaws.{weigh, Each, each_at}
use Rattle.wellformed.specs.WellFormed.{page}
use Rattle.rules.specs.CameLaws.{all_records, kept, CameFrom, Before, Begun, best_perm, weaken, settle_hands_on, strike_begun, strike_left, strike_then}
use Rattle.rules.specs.ChildLaws.{choose_inside, Replaced, replaced_one, replaced_two}
use Rattle.rules.specs.Frame.{loads, root_load, root_records, Unchanged, loads_unchanged, records_unchanged, sound_unchanged, frame}
use Rattle.rules.specs.Lists.{best_of, best_flat, weigh_flat, at_weigh, at_best, at_each}
use Rattle.rules.specs.Moves.{only, only_same, Pages, Apart, Moved, moved_apart, beside, again, then}
use Rattle.rules.specs.OnePage.{bests, scan_keeps, never_empty}
use Rattle.rules.specs.Recording.{Became, Became.stands, Became.split, Walked, Walk, choose, exact_at, settle, come_back_by, come_back, go_down}
use Rattle.rules.specs.Scan.{Sought, scan}
use Rattle.rules.specs.Score.{score, Scanned}
use Rattle.rules.specs.SettleLaws.{handle, Handles, Settled, Ready}
use Rattle.rules.specs.SplitPageLaws.{settle_law}
use Rattle.rules.specs.Strike.{Struck, is_struck, rest, strike_page}
use Rattle.rules.specs.StrikeLaws.{standing}
use Rattle.rules.specs.Tree.{load, records, hit, best, Sound, level_of}

-- the law of the walk one level lower: an index page has an entry, a leaf may be empty
abbrev pub LowerLaw : ℕ → ℕ → Walk → Type 0
LowerLaw n v lower = (ps : List Page) (p : ℕ) (s : Sought) (k : ℕ) → Begun n v ps p s → (1 ≤ n → 1 ≤ length (in_use (page ps p))) → CameFrom n v ps p s k (lower ps p s k)

-- the child that step 4 chooses
abbrev pub chosen : List Page → ℕ → Sought → ℕ
chosen ps p s = (get_or (in_use (page ps p)) (choose s.box (in_use (page ps p))) zero_entry).child

-- step 1 at the chosen child
module _ (n v : ℕ) (ps : List Page) (p : ℕ) (s : Sought) (begun : Begun (suc n) v ps p s) (some : 1 ≤ length (in_use (page ps p)))
    (uncovered : (scan (suc n) v (in_use (page ps p)) s).is_covered ≡ false) where
  h : Before (suc n) v ps p s
  h = begun.before

  es : List Entry
  es = in_use (page ps p)

  t : Sought
  t = scan (suc n) v es s

  scanned : Scanned v (λ q. bests ps q (suc n) es) s t
  unfolding t es
  scanned = scan_keeps ps (suc n) v (in_use (page ps p)) s h.stands.each h.fresh

  i : ℕ
  i = choose t.box es

  inside : i < length es
  unfolding i es
  inside = choose_inside t.box (in_use (page ps p)) some

  e : Entry
  e = get_or es i zero_entry

  others : List Entry
  others = without i es

  sound_e : Sound ps (suc n) e
  unfolding e es
  sound_e = each_at (Sound ps (suc n)) es zero_entry i inside h.stands.each

  -- what is owned beside the child: the page itself and the other entries' pages
  besides : Pages
  besides g = g p + loads ps (suc n) others g

  at_load : (g : ℕ → ℕ) → root_load ps (suc n) p g ≡ root_load ps n e.child g + besides g
  unfolding others e es besides load
  at_load g = let a = at_weigh es i inside (load ps g (suc n)) in omega arith

  all_apart : Apart ps (λ g. root_load ps n e.child g + besides g)
  all_apart q = let a = h.apart q in let b = at_load (only q) in omega arith

  down : Before n v ps e.child t
  down =
      record {
        stands = sound_e.stands;
        apart = λ q. let a = all_apart q in omega arith;
        lawful = scanned.lawful h.lawful;
        passes = h.passes;
        fresh = unfold t es in uncovered;
        room = let a = h.room in omega arith;
      }

  down_some : 1 ≤ length (rest t.box v (in_use (page ps e.child)))
  unfolding e es
  down_some = never_empty ps n v s.box t.box e sound_e (each_at (λ x. is_struck s.box v x ≡ false) es zero_entry i inside begun.unstruck) scanned.inside

  -- what is known when the walk goes down
  pub down_before : Before n v ps (chosen ps p (scan (suc n) v (in_use (page ps p)) s)) (scan (suc n) v (in_use (page ps p)) s)
  unfolding e i t es
  down_before = down

  -- no page below the root is left with no entry
  pub down_not_empty : let u = scan (suc n) v (in_use (page ps p)) s in 1 ≤ length (in_use (page (strike_page n u.box v ps (chosen ps p u)).pages (chosen ps p u)))
  unfolding e i t es
  down_not_empty = subst (λ (l : List Entry). 1 ≤ length l) (sym (strike_left n v ps e.child t down)) down_some

  module _ (lower : Walk) (law : LowerLaw n v lower) (k : ℕ) where
    x : Struck
    x = strike_page n t.box v ps e.child

    w : Walked
    w = lower x.pages e.child t (k + x.records)

    came : CameFrom n v ps e.child t k w
    unfolding w x e i t es
    came = strike_then n v ps e.child t down n k w (law x.pages e.child t (k + x.records) (strike_begun n v ps e.child t down) (λ l. down_not_empty))

    rs : List Page
    rs = w.pages

    lower_moved : Moved ps rs (root_load ps n e.child) (loads rs (suc n) came.handles) (suc n)
    unfolding rs
    lower_moved = came.moved

    others_unchanged : Each (Unchanged ps rs (suc n)) others
    unfolding others besides es
    others_unchanged =
        frame ps rs (root_load ps n e.child) (loads rs (suc n) came.handles) (suc n) lower_moved besides all_apart (suc n) others
        (at_each es i inside (Sound ps (suc n)) h.stands.each) (λ q. omega arith)

    page_kept : page rs p ≡ page ps p
    unfolding besides
    page_kept = lower_moved.kept p (standing ps (suc n) p (Sound ps (suc n)) h.stands) (let a = all_apart p in let o = only_same p in omega arith)

    lower_more : Moved ps rs (λ g. root_load ps n e.child g + besides g) (λ g. loads rs (suc n) came.handles g + besides g) (suc n)
    lower_more = beside ps rs (root_load ps n e.child) (loads rs (suc n) came.handles) (suc n) lower_moved besides

    back_moved : Moved ps rs (root_load ps (suc n) p) (λ g. loads rs (suc n) came.handles g + besides g) (suc n)
    back_moved =
        again ps rs (λ g. root_load ps n e.child g + besides g) (λ g. loads rs (suc n) came.handles g + besides g) (suc n) lower_more
        (root_load ps (suc n) p) (λ g. loads rs (suc n) came.handles g + besides g) at_load (λ g. refl)

    -- the entries after it came back, and the page settled
    module _ (after : List Entry) (y : Replaced es i came.handles after) where
      after_loads : (g : ℕ → ℕ) → g p + loads rs (suc n) after g ≡ loads rs (suc n) came.handles g + besides g
      unfolding besides others
      after_loads g = let a = y.sums (load rs g (suc n)) in let b = loads_unchanged ps rs (suc n) others others_unchanged g in omega arith

      all_moved : Moved ps rs (root_load ps (suc n) p) (λ g. g p + loads rs (suc n) after g) (suc n)
      all_moved =
          again ps rs (root_load ps (suc n) p) (λ g. loads rs (suc n) came.handles g + besides g) (suc n) back_moved
          (root_load ps (suc n) p) (λ g. g p + loads rs (suc n) after g) (λ g. refl) after_loads

      ready : Ready (suc n) rs p after
      unfolding others
      ready =
          record {
            inside = let a = back_moved.same_length in let b = h.stands.inside in omega arith;
            busy = subst (λ (x : Page). is_free x ≡ false) (sym page_kept) (standing ps (suc n) p (Sound ps (suc n)) h.stands);
            apart = moved_apart ps rs (root_load ps (suc n) p) (λ g. g p + loads rs (suc n) after g) (suc n) all_moved h.apart;
            sound = y.each (Sound rs (suc n)) (sound_unchanged ps rs (suc n) others others_unchanged) (unfold rs in came.sound);
            some = y.some;
          }

      z : Walked
      z = settle rs p (suc (suc n)) after w.sought w.struck

      settled : Settled (suc n) rs p after z
      unfolding z es
      settled = settle_law (suc n) rs p after ready (let a = y.most in let b = h.stands.most in omega arith) (let a = back_moved.spent in let b = h.room in omega arith) w.sought w.struck

      record_parts : (g : Entry → ℕ) → weigh g (all_records rs (suc n) after) + weigh g (root_records ps n e.child) ≡ weigh g (all_records ps (suc n) es) + weigh g (all_records rs (suc n) came.handles)
      unfolding others e records
      record_parts g =
          let f : Entry → ℕ = λ a. weigh g (records rs (suc n) a) in
          let f₀ : Entry → ℕ = λ a. weigh g (records ps (suc n) a) in
          let a = y.sums f in
          let b = weigh_flat (records rs (suc n)) g after in
          let c = weigh_flat (records rs (suc n)) g came.handles in
          let d = weigh_flat (records rs (suc n)) g (without i es) in
          let o = ap (weigh g) (records_unchanged ps rs (suc n) (without i es) others_unchanged) in
          let m = weigh_flat (records ps (suc n)) g (without i es) in
          let u = at_weigh es i inside f₀ in
          let j = weigh_flat (records ps (suc n)) g es in
          omega arith

      best_after : (q : Box) → best_of (hit q) (all_records rs (suc n) after) ≡ max (best_of (hit q) (all_records ps (suc n) others)) (best_of (hit q) (all_records rs (suc n) came.handles))
      unfolding others
      best_after q =
          let f : Entry → ℕ = λ a. best_of (hit q) (records rs (suc n) a) in
          let a = y.bests f in
          let b = best_flat (records rs (suc n)) (hit q) after in
          let c = best_flat (records rs (suc n)) (hit q) came.handles in
          let d = best_flat (records rs (suc n)) (hit q) (without i es) in
          let o = ap (best_of (hit q)) (records_unchanged ps rs (suc n) (without i es) others_unchanged) in
          omega arith

      best_before : (q : Box) → best_of (hit q) (all_records ps (suc n) es) ≡ max (best_of (hit q) (all_records ps (suc n) others)) (best_of (hit q) (root_records ps n e.child))
      unfolding others e records
      best_before q =
          let a = at_best es i inside (best ps q (suc n)) in
          let b = best_flat (records ps (suc n)) (hit q) es in
          let c = best_flat (records ps (suc n)) (hit q) (without i es) in
          omega arith

      index_came : CameFrom (suc n) v ps p s k (settle rs p (suc (suc n)) after w.sought w.struck)
      unfolding z es rs
      index_came =
          let c = settled in
          let d = settle_hands_on rs p (suc (suc n)) after w.sought w.struck in
          let m = then ps rs (root_load ps (suc n) p) (λ g. g p + loads rs (suc n) after g) (suc n) all_moved z.pages (loads z.pages (suc (suc n)) c.handles) 1 c.moved in
          record {
            handles = c.handles;
            shape = c.shape;
            sound = c.sound;
            moved = weaken ps z.pages (root_load ps (suc n) p) (loads z.pages (suc (suc n)) c.handles) (suc n + 1) (suc (suc n)) (omega arith) m;
            gone = came.gone;
            counted = let a = d.struck in let b = came.counted in omega arith;
            inside = subst (λ (a : Sought). covers s.box a.box ≡ true) (sym d.sought) (covers_trans s.box t.box w.sought.box scanned.inside came.inside);
            same = λ g.
                let a = c.same_records g in
                let b = record_parts g in
                let f = came.same g in
                let j = ap (λ (l : Sought). weigh g (kept l v)) d.sought in
                omega arith;
            answers = λ q l.
                let a = best_perm (hit q) (all_records z.pages (suc (suc n)) c.handles) (all_records rs (suc n) after) c.same_records in
                let b = best_after q in
                let f = came.answers q l in
                let j = best_before q in
                let u = best_flat (records ps (suc n)) (hit q) es in
                let m = scanned.kept q l in
                combine (best_of (hit q) (all_records z.pages (suc (suc n)) c.handles)) (best_of (hit q) (all_records ps (suc n) others)) (best_of (hit q) (all_records rs (suc n) came.handles))
                (best_of (hit q) (root_records ps n e.child)) (best_of (hit q) (all_records ps (suc n) es)) (score q t.box v) (score q s.box v)
                (a ∙ b) f j (ap (λ (o : ℕ). max o (score q t.box v)) u ∙ m ∙ ap (λ (o : ℕ). max o (score q s.box v)) (sym u));
          }
        where
          combine : (z o c e a x y : ℕ) → z ≡ max o c → c ≡ max e x → a ≡ max o e → max a x ≡ max a y → z ≡ max a y
          combine z o c e a x y p q r s = omega arith

    -- by what became of the child
    by_became : (o : Became) → Handles rs e.child o came.handles → CameFrom (suc n) v ps p s k (come_back_by o rs p (suc (suc n)) es i w.sought w.struck)
    unfolding e
    by_became stands f = index_came (exact_at rs es i) (subst (λ (hs : List Entry). Replaced es i hs (exact_at rs es i)) (sym f) (replaced_one rs es i inside))
    by_became (split q) f =
        index_came (exact_at rs es i ++ (handle rs q ∷ [])) (subst (λ (hs : List Entry). Replaced es i hs (exact_at rs es i ++ (handle rs q ∷ []))) (sym f) (replaced_two rs es i inside (handle rs q)))

    pub go_down_law : CameFrom (suc n) v ps p s k (go_down n v lower ps p (scan (suc n) v (in_use (page ps p)) s) k)
    unfolding go_down come_back rs w x e i t es
    go_down_law =
        subst (λ (y : Page). CameFrom (suc n) v ps p s k (come_back_by w.became rs p y.level (in_use y) i w.sought w.struck)) (sym page_kept)
        (subst (λ (l : ℕ). CameFrom (suc n) v ps p s k (come_back_by w.became rs p l es i w.sought w.struck)) (sym (level_of ps (suc n) p (Sound ps (suc n)) h.stands))
        (by_became w.became came.shape))

    -- the page is found again as it was
    pub found_again : let u = scan (suc n) v (in_use (page ps p)) s in
        let y = strike_page n u.box v ps (chosen ps p u) in
        page (lower y.pages (chosen ps p u) u (k + y.records)).pages p ≡ page ps p
    unfolding rs w x e i t es
    found_again = page_kept
