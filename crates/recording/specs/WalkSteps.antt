-- The walk in the code's order: the strike at a page, the walk at a leaf, and a step down and back.
use Rattle.std.specs.Prelude.{None, Option, ℕ, suc, ◌+◌, ◌-◌, ◌≤◌, ◌<◌, min, Bool, true, false, ◌≡◌, refl, length, get_or}
use mathlib.Core.List.{List, [], ◌∷◌, ◌++◌}
use Rattle.std.proofs.Common.{sym, ap₂, ◌∙◌, arith}
use Rattle.std.proofs.Math.Path.{ap, subst}
use Rattle.ground.specs.declared.boxes.Box.{Box}
use Rattle.pages.specs.FreeLaws.{NoneFree}
use Rattle.pages.specs.Layout.{zero_entry, pages_in, page_at, table_fits, pages_of}
use Rattle.pages.specs.LayoutLaws.{pages_at, pages_length}
use Rattle.pages.specs.Summary.{in_use}
use Rattle.pages.specs.declared.Page.{Page}
use Rattle.split.specs.Split.{page_from}
use Rattle.wellformed.specs.WellFormed.{page}
use Rattle.recording.specs.declared.scan.Sought as code-sought
use Rattle.recording.specs.declared.walk.Walked as code-walked
use Rattle.recording.specs.LookSteps.{Within, Sees, scan_index}
use Rattle.recording.specs.LowSteps.{Low, walk_low}
use Rattle.recording.specs.LyingSteps.{leaf_settled, none_to_strike}
use Rattle.recording.specs.PageSteps.{TidyPage}
use Rattle.recording.specs.SettleSteps.{passing, settled, settle_passes, Settles, came_back, come_back_passes}
use Rattle.recording.specs.TableSteps.{still_fits}
use Rattle.recording.specs.Views.{most_struck, Frees, sought_of, became_of, Walks, WalksOn}
use Rattle.recording.specs.WithinLaws.{scan_within}
use Rattle.rules.specs.CameLaws.{Before, Begun}
use Rattle.rules.specs.IndexLaws.{chosen}
use Rattle.rules.specs.Recording.{choose, leaf_entry, Walked, come_back, append, go_down, unless_covered, go_on, walk_down}
use Rattle.rules.specs.Scan.{Sought, scan}
use Rattle.rules.specs.Strike.{struck_of, strike_page}
use Rattle.rules.specs.Tree.{Sound, level_of}
use Rattle.rules.specs.WalkLaws.{StepDown}
use Rattle.rules.proofs.WalkLaws.{step_down}

-- what striking at a page asks for: a tidy page of the table, and the sieve of a box in which the record lies
pub record MayStrike (t : List ℕ) (q : Box) (p : ℕ) (b : Box) : Type 0 where
  pub fits : table_fits t ≡ true
  pub inside : p < pages_in t
  pub tidy : TidyPage (page (pages_of t) p)
  pub within : Within q b

-- what a walk asks for: a page whose strikes are done, with an entry if it is an index page
pub record MayWalk (n v : ℕ) (t : List ℕ) (q : Box) (p : ℕ) (s : Sought) : Type 0 where
  pub fits : table_fits t ≡ true
  pub begun : Begun n v (pages_of t) p s
  pub some : 1 ≤ n → 1 ≤ length (in_use (page (pages_of t) p))
  pub within : Within q s.box

pub stands_tidy : (n v : ℕ) (ps : List Page) (p : ℕ) (s : Sought) → Before n v ps p s → TidyPage (page ps p)
stands_tidy n v ps p s h =
    record { is = h.stands.form ∙ ap (λ (l : ℕ). page_from l (in_use (page ps p))) (sym (level_of ps n p (Sound ps n) h.stands)); most = h.stands.most }

pub may_strike : (n v : ℕ) (t : List ℕ) (q : Box) (p : ℕ) (s : Sought) → table_fits t ≡ true → Before n v (pages_of t) p s → Within q s.box → MayStrike t q p s.box
may_strike n v t q p s f h w = record { fits = f; inside = omega (arith, h.stands.inside, pages_length t); tidy = stands_tidy n v (pages_of t) p s h; within = w }

pub none_seen : (n v p : ℕ) (t : List ℕ) (q b : Box) (x : Page) (r : Bool) → MayStrike t q p b → x ≡ page_at t p → Sees q v (in_use x) r → r ≡ false → Frees t t 0 (strike_page n b v (pages_of t) p)
none_seen n v p t q b x r m e h z =
    none_to_strike n b v p t m.tidy (ap (λ (y : Page). struck_of b v (in_use y)) (pages_at t p m.inside ∙ sym e) ∙ h.none_struck b m.within z)

module _ (n v p : ℕ) (t : List ℕ) (q : Box) (s : Sought) (h : MayWalk n v t q p s) where
  pub inside : p < pages_in t
  inside = omega (arith, h.begun.before.stands.inside, pages_length t)

  pub tidy_there : TidyPage (page (pages_of t) p)
  tidy_there = stands_tidy n v (pages_of t) p s h.begun.before

  -- the page that was scanned is the one that lies there
  there : (x : Page) → x ≡ page_at t p → x ≡ page (pages_of t) p
  there x e = e ∙ sym (pages_at t p inside)

  scanned_there : (x : Page) (found : Sought) → x ≡ page_at t p → found ≡ scan n v (in_use x) s → found ≡ scan n v (in_use (page (pages_of t) p)) s
  scanned_there x found e h = h ∙ ap (λ (y : Page). scan n v (in_use y) s) (there x e)

-- what is handed back is what the rules hand back
handed : (t u : List ℕ) (r : code-walked.Walked) (w y : Walked) → y ≡ w → Walks t u r w → Walks t u r y
handed t u r w y e h = subst (Walks t u r) (sym e) h

-- at a leaf
pub leaf_ends : (v p k : ℕ) (t u : List ℕ) (q : Box) (s found : code-sought.Sought) (x : Page) (o : Option ℕ) → MayWalk 0 v t q p (sought_of s) → x ≡ page_at t p → sought_of found ≡ scan 0 v (in_use x) (sought_of s)
    → Settles t u o (leaf_settled found.covered (pages_of t) p (leaf_entry found.place v)) → WalksOn t u k (record { became = o; sought = found; struck = k }) (walk_down 0 v (pages_of t) p (sought_of s))
unfolding walk_down go_on append
leaf_ends v p k t u q s found x o h d scanned l =
    record {
      same_length = l.same_length;
      walks = λ m e.
          handed t u (record { became = o; sought = found; struck = k }) (unless_covered found.covered (append v) (pages_of t) p (sought_of found) m) (walk_down 0 v (pages_of t) p (sought_of s) m)
          (ap (λ (y : Sought). unless_covered y.is_covered (append v) (pages_of t) p y m) (sym (scanned_there 0 v p t q (sought_of s) h x (sought_of found) d scanned)))
          (by_test found.covered m e l);
    }
  where
    by_test : (c : Bool) (m : ℕ) → k ≡ min m most_struck → Settles t u o (leaf_settled c (pages_of t) p (leaf_entry found.place v)) → Walks t u (record { became = o; sought = found; struck = k }) (unless_covered c (append v) (pages_of t) p (sought_of found) m)
    by_test true m e g = record { same_length = g.same_length; pages_are = g.pages_are; became_is = g.became_is; sought_is = refl; struck_is = e }
    by_test false m e g =
        let x = page (pages_of t) p in
        let es = in_use x ++ (leaf_entry found.place v ∷ []) in
        handed t u (record { became = o; sought = found; struck = k }) (passing (settled (pages_of t) p x.level es) (sought_of found) m) (append v (pages_of t) p (sought_of found) m)
        (settle_passes (pages_of t) p x.level es (sought_of found) m)
        (record { same_length = g.same_length; pages_are = g.pages_are; became_is = g.became_is; sought_is = refl; struck_is = e })

-- at an index page
module _ (n v p k : ℕ) (t : List ℕ) (q : Box) (s found : code-sought.Sought) (lying : Page) (h : MayWalk n v t q p (sought_of s)) (index : n ≡ 0 → ⊥) (same : lying ≡ page_at t p) (scanned : sought_of found ≡ scan 1 v (in_use lying) (sought_of s)) where
  level : n ≡ suc (n - 1)
  level = omega arith

  found_is : scan (suc (n - 1)) v (in_use (page (pages_of t) p)) (sought_of s) ≡ sought_of found
  found_is =
      ap (λ (m : ℕ). scan m v (in_use (page (pages_of t) p)) (sought_of s)) (sym level)
      ∙ sym (scanned_there n v p t q (sought_of s) h lying (sought_of found) same (scanned ∙ scan_index n v (in_use lying) (sought_of s) (omega arith)))

  goes_on : (m : ℕ) → walk_down n v (pages_of t) p (sought_of s) m ≡ unless_covered found.covered (go_down (n - 1) v (walk_down (n - 1) v)) (pages_of t) p (sought_of found) m
  unfolding walk_down go_on
  goes_on m =
      ap (λ (j : ℕ). walk_down j v (pages_of t) p (sought_of s) m) level
      ∙ ap (λ (x : Sought). unless_covered x.is_covered (go_down (n - 1) v (walk_down (n - 1) v)) (pages_of t) p x m) found_is

  -- covered
  pub index_covered : found.covered ≡ true → WalksOn t t k (record { became = None; sought = found; struck = k }) (walk_down n v (pages_of t) p (sought_of s))
  index_covered c =
      record {
        same_length = refl;
        walks = λ m e.
            handed t t (record { became = None; sought = found; struck = k }) (unless_covered true (go_down (n - 1) v (walk_down (n - 1) v)) (pages_of t) p (sought_of found) m) (walk_down n v (pages_of t) p (sought_of s) m)
            (goes_on m ∙ ap (λ (b : Bool). unless_covered b (go_down (n - 1) v (walk_down (n - 1) v)) (pages_of t) p (sought_of found) m) c)
            (record { same_length = refl; pages_are = refl; became_is = refl; sought_is = refl; struck_is = e });
      }

  -- one level down and back
  module _ (i c : ℕ) (uncovered : found.covered ≡ false) (d : i ≡ choose found.place (in_use lying)) (e : c ≡ (get_or (in_use (page (pages_of t) p)) i zero_entry).child) where
    place_is : choose found.place (in_use (page (pages_of t) p)) ≡ i
    place_is = sym (d ∙ ap (λ (x : Page). choose found.place (in_use x)) (there n v p t q (sought_of s) h lying same))

    child_is : chosen (pages_of t) p (sought_of found) ≡ c
    child_is = ap (λ (j : ℕ). (get_or (in_use (page (pages_of t) p)) j zero_entry).child) place_is ∙ sym e

    step : StepDown (n - 1) v (pages_of t) p (sought_of found) k c
    step =
        subst (StepDown (n - 1) v (pages_of t) p (sought_of found) k) child_is
        (subst (λ (x : Sought). StepDown (n - 1) v (pages_of t) p x k (chosen (pages_of t) p x)) found_is
        (step_down (n - 1) v (pages_of t) p (sought_of s) k (subst (λ (m : ℕ). Begun m v (pages_of t) p (sought_of s)) level h.begun) (h.some (omega arith)) (ap (λ (x : Sought). x.is_covered) found_is ∙ uncovered)))

    within_found : Within q found.place
    within_found = subst (λ (x : Sought). Within q x.box) found_is (scan_within q (suc (n - 1)) v (in_use (page (pages_of t) p)) (sought_of s) h.within)

    pub may_strike_child : MayStrike t q c found.place
    may_strike_child = may_strike (n - 1) v t q c (sought_of found) h.fits step.before within_found

    module _ (more : ℕ) (u : List ℕ) (f : Frees t u more (strike_page (n - 1) found.place v (pages_of t) c)) where
      pub may_go_down : MayWalk (n - 1) v u q c (sought_of found)
      may_go_down =
          record {
            fits = still_fits t u h.fits f.same_length;
            begun = subst (λ (ps : List Page). Begun (n - 1) v ps c (sought_of found)) (sym f.pages_are) step.begun;
            some = λ l. subst (λ (ps : List Page). 1 ≤ length (in_use (page ps c))) (sym f.pages_are) step.some;
            within = within_found;
          }

      struck : ℕ
      struck = (strike_page (n - 1) found.place v (pages_of t) c).records

      below : ℕ → Walked
      below m = walk_down (n - 1) v (strike_page (n - 1) found.place v (pages_of t) c).pages c (sought_of found) (m + struck)

      module _ (next : ℕ) (w : List ℕ) (lower : code-walked.Walked) (g : next ≡ min (k + more) most_struck) (b : WalksOn u w next lower (walk_down (n - 1) v (pages_of u) c (sought_of found))) where
        lower_walks : (m : ℕ) → k ≡ min m most_struck → Walks u w lower (below m)
        unfolding below struck
        lower_walks m z =
            subst (λ (ps : List Page). Walks u w lower (walk_down (n - 1) v ps c (sought_of found) (m + struck))) f.pages_are
            (b.walks (m + struck) (omega (arith, f.struck_is)))

        pub may_come_back : k ≤ most_struck → (table_fits w ≡ true) × TidyPage (page (pages_of w) p) × Low (became_of lower.became) (pages_of w)
        unfolding below struck
        may_come_back few =
            let x = lower_walks k (omega arith) in
            let y = strike_page (n - 1) found.place v (pages_of t) c in (
              still_fits u w may_go_down.fits x.same_length,
              subst TidyPage (sym (ap (λ (ps : List Page). page ps p) x.pages_are ∙ step.found_again)) (tidy_there n v p t q (sought_of s) h),
              λ j a. subst (λ (ps : List Page). NoneFree ps j) (sym x.pages_are) (walk_low (n - 1) v y.pages c (sought_of found) (k + struck) j (sym x.became_is ∙ a)),
            )

        goes_down : (m : ℕ) → walk_down n v (pages_of t) p (sought_of s) m ≡ come_back p i (below m)
        unfolding go_down below struck
        goes_down m =
            let es = in_use (page (pages_of t) p) in
            goes_on m
            ∙ ap (λ (x : Bool). unless_covered x (go_down (n - 1) v (walk_down (n - 1) v)) (pages_of t) p (sought_of found) m) uncovered
            ∙ ap (λ (j : ℕ). let y = strike_page (n - 1) found.place v (pages_of t) (get_or es j zero_entry).child in come_back p j (walk_down (n - 1) v y.pages (get_or es j zero_entry).child (sought_of found) (m + y.records))) place_is
            ∙ ap (λ (j : ℕ). let y = strike_page (n - 1) found.place v (pages_of t) j in come_back p i (walk_down (n - 1) v y.pages j (sought_of found) (m + y.records))) (sym e)

        pub came_back_lem : (x : List ℕ) (o : Option ℕ) → Settles w x o (came_back (became_of lower.became) (pages_of w) p i)
            → WalksOn t x k (record { became = o; sought = lower.sought; struck = lower.struck }) (walk_down n v (pages_of t) p (sought_of s))
        came_back_lem x o j =
            record {
              same_length = j.same_length ∙ b.same_length ∙ f.same_length;
              walks = λ m z.
                  let y = lower_walks m z in
                  let a = below m in
                  let again : came_back (became_of lower.became) (pages_of w) p i ≡ came_back a.became a.pages p i = ap₂ (λ l ps. came_back l ps p i) y.became_is y.pages_are in
                  handed t x (record { became = o; sought = lower.sought; struck = lower.struck }) (passing (came_back a.became a.pages p i) a.sought a.struck) (walk_down n v (pages_of t) p (sought_of s) m)
                  (goes_down m ∙ come_back_passes p i a)
                  (record {
                    same_length = j.same_length ∙ y.same_length ∙ f.same_length;
                    pages_are = j.pages_are ∙ ap (λ l. l.pages) again;
                    became_is = j.became_is ∙ ap (λ l. l.became) again;
                    sought_is = y.sought_is;
                    struck_is = y.struck_is;
                  });
            }
