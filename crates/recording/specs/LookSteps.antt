-- Looking over a page's entries where they lie: which candidates leave the record as it is, and the loop, turn by turn.
use Rattle.std.specs.Prelude.{ℕ, zero, suc, ◌+◌, ◌-◌, ◌≤◌, ◌<◌, Bool, ◌&&◌, ◌||◌, not, List, [], ◌∷◌, ◌++◌, ◌≡◌, leb, length, get_or, take}
use Rattle.std.proofs.Math.Bool.{true, false, xor, cond}
use Rattle.std.specs.Bool.{beq}
use Rattle.std.proofs.lemmas.Bool.{false≢true}
use Rattle.std.proofs.Common.{true≢false, sym, ap, ap₂, ◌∙◌, add-one, arith, le-leb, leb-true, take-suc}
use Rattle.std.proofs.Math.Path.{refl, subst}
use Rattle.ground.specs.Axes.{beside, placed, touching_at}
use Rattle.ground.specs.BoxLaws.{covers_trans}
use Rattle.ground.specs.Boxes.{holds, touches_on, touches, covers_on, covers}
use Rattle.ground.specs.Cutting.{Axis, Axis.east, Axis.north, Axis.day, on, at, covers_beside, covers_one_end, cuts_on, left_on, left, cut}
use Rattle.ground.specs.Facts.{holding, lies_past, lies_before, touching_on, touching, touches_so, touches_on_so, covering, covers_so}
use Rattle.ground.specs.Tests.{both, joint, three, fails}
use Rattle.ground.specs.declared.boxes.Range.{Range}
use Rattle.ground.specs.declared.boxes.Box.{Box}
use Rattle.ground.specs.declared.boxes.Cut.{Cut}
use Rattle.ground.specs.declared.boxes.Cut.TheVariants.{Covered, Left, Unchanged}
use Rattle.pages.specs.Layout.{zero_entry}
use Rattle.pages.specs.declared.Entry.{Entry}
use Rattle.pages.specs.declared.Page.{Page}
use Rattle.rules.specs.Scan.{Sought, met, meets, candidate, scan_entry, scan}
use Rattle.rules.specs.Strike.{is_struck, cons_if, select, struck_of, rest, strike_all, strike_one, strike}
use Rattle.recording.specs.StrikeSteps.{select_more}

-- c covers b on two axes or more
abbrev pub on_two_axes : Box → Box → Bool
on_two_axes c b = (covers_on c.east b.east && (covers_on c.north b.north || covers_on c.day b.day)) || (covers_on c.north b.north && covers_on c.day b.day)

-- on fewer, it neither covers nor cuts b
pub one_axis : (c b : Box) → on_two_axes c b ≡ false → cut c b ≡ Unchanged
unfolding cut cuts_on covers
one_axis c b = by_axes (covers_on c.east b.east) (covers_on c.north b.north) (covers_on c.day b.day)
  where
    by_axes : (e n d : Bool) → (e && (n || d)) || (n && d) ≡ false
        → cond (e && n && d) Covered
        (cond ((n && d) && touches c b && covers_one_end c.east b.east) (Left (left east c b))
        (cond ((e && d) && touches c b && covers_one_end c.north b.north) (Left (left north c b))
        (cond ((e && n) && touches c b && covers_one_end c.day b.day) (Left (left day c b))
        Unchanged)))
        ≡ Unchanged
    by_axes true true d h = absurd (true≢false h)
    by_axes true false true h = absurd (true≢false h)
    by_axes true false false h = refl
    by_axes false true true h = absurd (true≢false h)
    by_axes false true false h = refl
    by_axes false false d h = refl

-- a candidate that is tested first, and one that is met
pub not_met : (s : Sought) (c two : Bool) (x : Box) → two ≡ on_two_axes x s.box → s.is_covered || not c || not two ≡ true → s ≡ candidate c x s
unfolding candidate
not_met s c two x e h = by_tests s.is_covered c two e h
  where
    by_tests : (k c t : Bool) → t ≡ on_two_axes x s.box → k || not c || not t ≡ true → s ≡ meets k c x s
    by_tests true c t e h = refl
    by_tests false false t e h = refl
    by_tests false true false e h = sym (ap (λ z. met z s) (one_axis x s.box (sym e)))
    by_tests false true true e h = absurd (false≢true h)

pub met_by : (s r : Sought) (c two : Bool) (x : Box) (k : Cut) → s.is_covered || not c || not two ≡ false → k ≡ cut x s.box → r ≡ met k s → r ≡ candidate c x s
unfolding candidate
met_by s r c two x k h e d = by_tests s.is_covered c two h
  where
    by_tests : (a c t : Bool) → a || not c || not t ≡ false → r ≡ meets a c x s
    by_tests true c t h = absurd (true≢false h)
    by_tests false false t h = absurd (true≢false h)
    by_tests false true t h = d ∙ ap (λ z. met z s) e

-- both ends of a range lie in another, whichever of the two is the lower
pub record WithinOn (q r : Range) : Type 0 where
  pub low_from : q.low ≤ r.low
  pub low_to : r.low ≤ q.high
  pub high_from : q.low ≤ r.high
  pub high_to : r.high ≤ q.high

pub record Within (q b : Box) : Type 0 where
  pub east : WithinOn q.east b.east
  pub north : WithinOn q.north b.north
  pub day : WithinOn q.day b.day

within_at : (q b : Box) → Within q b → (y : Axis) → WithinOn (on y q) (on y b)
within_at q b w east = w.east
within_at q b w north = w.north
within_at q b w day = w.day

-- what cuts b touches a box that b lies in, and so does what covers b
cuts_touch : (q c b : Box) → Within q b → (x : Axis) → cuts_on x c b ≡ true → touches q c ≡ true
unfolding cuts_on
cuts_touch q c b w x h =
    let k = touching c b (three (covers_beside x c b) (touches c b) (covers_one_end (on x c) (on x b)) h).1 in
    touches_so q c (record { east = omega (arith, w.east, k.east); north = omega (arith, w.north, k.north); day = omega (arith, w.day, k.day) })

covers_touch : (q c b : Box) → Within q b → covers c b ≡ true → touches q c ≡ true
covers_touch q c b w h =
    let k = covering c b h in
    touches_so q c (record { east = omega (arith, w.east, k.east); north = omega (arith, w.north, k.north); day = omega (arith, w.day, k.day) })

pub apart : (q c b : Box) → Within q b → touches q c ≡ false → cut c b ≡ Unchanged
unfolding cut
apart q c b w n =
    let no : touches q c ≡ true → ⊥ = λ h. true≢false (sym h ∙ n) in
    let a = fails (covers c b) (λ h. no (covers_touch q c b w h)) in
    let d = fails (cuts_on east c b) (λ h. no (cuts_touch q c b w east h)) in
    let e = fails (cuts_on north c b) (λ h. no (cuts_touch q c b w north h)) in
    let f = fails (cuts_on day c b) (λ h. no (cuts_touch q c b w day h)) in
    rw (a, d, e, f)

-- a candidate that neither covers nor cuts
pub left_alone : (c : Bool) (x : Box) (s : Sought) → cut x s.box ≡ Unchanged → s ≡ candidate c x s
unfolding candidate
left_alone c x s e = by_tests s.is_covered c
  where
    by_tests : (k c : Bool) → s ≡ meets k c x s
    by_tests true c = refl
    by_tests false true = sym (ap (λ z. met z s) e)
    by_tests false false = refl

pub too_weak : (c : Bool) (x : Box) (s : Sought) → c ≡ false → s ≡ candidate c x s
unfolding candidate
too_weak c x s e = rw e (by_test s.is_covered)
  where
    by_test : (k : Bool) → s ≡ meets k false x s
    by_test true = refl
    by_test false = refl

-- what is not struck by a box that b lies in is not struck by b
pub within_covers : (q b : Box) → Within q b → covers q b ≡ true
within_covers q b w = covers_so q b (record { east = omega (arith, w.east); north = omega (arith, w.north); day = omega (arith, w.day) })

pub not_struck : (q b : Box) (v : ℕ) (e : Entry) → Within q b → covers q e.place && leb e.gust v ≡ false → is_struck b v e ≡ false
not_struck q b v e w n =
    fails (is_struck b v e)
    (λ h. let k = both (covers b e.place) (leb e.gust v) h in
    true≢false (sym (joint (covers q e.place) (leb e.gust v) (covers_trans q b e.place (within_covers q b w) k.0) k.1) ∙ n))

-- what a cut leaves lies where the box lay
left_within_on : (q c b : Range) → touches_on c b ≡ true → covers_one_end c b ≡ true → WithinOn q b → WithinOn q (left_on c b)
unfolding covers_one_end left_on xor
left_within_on q c b t o w = by_end (holds c b.low) (holds c b.high) refl refl o
  where
    by_end : (l h : Bool) → holds c b.low ≡ l → holds c b.high ≡ h → not (beq l h) ≡ true → WithinOn q (cond l (record { low = c.high + 1; high = b.high }) (record { low = b.low; high = c.low - 1 }))
    by_end true true pl ph e = absurd (false≢true e)
    by_end false false pl ph e = absurd (false≢true e)
    by_end true false pl ph e =
        let f = holding c b.low pl in
        let g = touching_on c b t in
        let k = lies_past c b.high ph (omega arith) in
        omega (arith, w)
    by_end false true pl ph e =
        let f = holding c b.high ph in
        let g = touching_on c b t in
        let k = lies_before c b.low pl (omega arith) in
        omega (arith, w)

within_each : (q b : Box) → ((y : Axis) → WithinOn (on y q) (on y b)) → Within q b
within_each q b h = record { east = h east; north = h north; day = h day }

module _ (q c b : Box) (w : Within q b) where
  left_on_lem : (x : Axis) → cuts_on x c b ≡ true → Within q (left x c b)
  unfolding cuts_on left
  left_on_lem x e =
      let h = three (covers_beside x c b) (touches c b) (covers_one_end (on x c) (on x b)) e in
      let l = left_on (on x c) (on x b) in
      within_each q (at x l b)
      (placed (λ y r. WithinOn (on y q) r) x l b
      (left_within_on (on x q) (on x c) (on x b) (touches_on_so (on x c) (on x b) (touching_at c b (touching c b h.1) x)) h.2 (within_at q b w x))
      (beside (λ y. WithinOn (on y q) (on y b)) x (within_at q b w)))

  the_box : (m l : Box) → Left m ≡ Left l → m ≡ l
  the_box m l e = cc

  not_left : (k : Cut) (l : Box) → k ≡ Left l → (k ≡ Covered) → ⊥
  not_left k l e f = let z : ◌≡◌ {A = ℕ} 0 1 = cc in omega arith

  not_left_2 : (k : Cut) (l : Box) → k ≡ Left l → (k ≡ Unchanged) → ⊥
  not_left_2 k l e f = let z : ◌≡◌ {A = ℕ} 0 1 = cc in omega arith

  left_within : (l : Box) → cut c b ≡ Left l → Within q l
  unfolding cut
  left_within l = by_test (covers c b) (cuts_on east c b) (cuts_on north c b) (cuts_on day c b) refl refl refl
    where
      by_test : (v e n d : Bool) → cuts_on east c b ≡ e → cuts_on north c b ≡ n → cuts_on day c b ≡ d → cond v Covered (cond e (Left (left east c b)) (cond n (Left (left north c b)) (cond d (Left (left day c b)) Unchanged))) ≡ Left l → Within q l
      by_test true e n d pe pn pd z = absurd (not_left Covered l z refl)
      by_test false true n d pe pn pd z = subst (Within q) (the_box (left east c b) l z) (left_on_lem east pe)
      by_test false false true d pe pn pd z = subst (Within q) (the_box (left north c b) l z) (left_on_lem north pn)
      by_test false false false true pe pn pd z = subst (Within q) (the_box (left day c b) l z) (left_on_lem day pd)
      by_test false false false false pe pn pd z = absurd (not_left_2 Unchanged l z refl)

pub candidate_within : (q x : Box) (c : Bool) (s : Sought) → Within q s.box → Within q (candidate c x s).box
unfolding candidate
candidate_within q x c s w = by_tests s.is_covered c
  where
    by_cut : (k : Cut) → cut x s.box ≡ k → Within q (met k s).box
    by_cut Covered e = w
    by_cut (Left l) e = left_within q x s.box w l e
    by_cut Unchanged e = w

    by_tests : (k c : Bool) → Within q (meets k c x s).box
    by_tests true c = w
    by_tests false true = by_cut (cut x s.box) refl
    by_tests false false = w

pub entry_within : (q : Box) (n v : ℕ) (e : Entry) (s : Sought) → Within q s.box → Within q (scan_entry n v e s).box
unfolding scan_entry
entry_within q zero v e s w = candidate_within q e.place (leb v e.gust) s w
entry_within q (suc n) v e s w =
    let m = candidate (leb v e.gust) e.strongest s in
    candidate_within q e.union (leb v e.weakest) m (candidate_within q e.strongest (leb v e.gust) s w)

-- A look over entries sees whether some may be struck: where none is seen, no box that lies in q strikes one.
pub record Sees (q : Box) (v : ℕ) (es : List Entry) (r : Bool) : Type 0 where
  pub none_struck : (b : Box) → Within q b → r ≡ false → struck_of b v es ≡ []

module _ (q : Box) (v : ℕ) (es : List Entry) where
  pub seen_none : Sees q v (take 0 es) false
  unfolding select
  seen_none = record { none_struck = λ b w z. refl }

  pub seen_more : (i : ℕ) (e : Entry) (struck hit : Bool) → i < length es → e ≡ get_or es i zero_entry → hit ≡ covers q e.place && leb e.gust v → Sees q v (take i es) struck → Sees q v (take (i + 1) es) (struck || hit)
  seen_more i e struck hit l d t h =
      record {
        none_struck = λ b w f.
            let g = neither struck hit f in
            let o : is_struck b v (get_or es i zero_entry) ≡ false = ap (is_struck b v) (sym d) ∙ not_struck q b v e w (sym t ∙ g.1) in
            ap (λ k. struck_of b v (take k es)) (add-one i)
            ∙ ap (struck_of b v) (take-suc es i zero_entry l)
            ∙ select_more (is_struck b v) (take i es) (get_or es i zero_entry)
            ∙ ap₂ (λ xs c. xs ++ cons_if c (get_or es i zero_entry) []) (h.none_struck b w g.0) o;
      }
    where
      neither : (a c : Bool) → a || c ≡ false → (a ≡ false) × (c ≡ false)
      neither true c f = absurd (true≢false f)
      neither false c f = (refl, f)

-- a candidate that is met where it lies, and one that is passed over, since it neither covers nor cuts
pub met_there : (v g k : ℕ) (x y : Box) (s r : Sought) → k ≡ g → y ≡ x → r ≡ candidate (leb v k) y s → r ≡ candidate (leb v g) x s
met_there v g k x y s r e d h = h ∙ ap (λ m. candidate (leb v m) y s) e ∙ ap (λ z. candidate (leb v g) z s) d

pub passed_over : (q x : Box) (c : Bool) (s : Sought) → Within q s.box → touches q x ≡ false → s ≡ candidate c x s
passed_over q x c s w t = left_alone c x s (apart q x s.box w t)

pub strong_met : (v g k : ℕ) (x y : Box) (s r : Sought) → k ≡ g → v ≤ k → y ≡ x → r ≡ candidate true y s → r ≡ candidate (leb v g) x s
strong_met v g k x y s r e l d h = h ∙ ap (λ z. candidate true z s) d ∙ ap (λ t. candidate t x s) (sym (le-leb v g (omega (arith, e))))

pub weak_passed : (v g k : ℕ) (x : Box) (s : Sought) → k ≡ g → k < v → s ≡ candidate (leb v g) x s
weak_passed v g k x s e l = too_weak (leb v g) x s (fails (leb v g) (λ h. let m = leb-true v g h in omega (arith, e)))

-- an index page is scanned alike at every level
pub scan_index : (n v : ℕ) (es : List Entry) (s : Sought) → 0 < n → scan 1 v es s ≡ scan n v es s
unfolding scan scan_entry
scan_index zero v es s l = absurd (omega arith)
scan_index (suc n) v [] s l = refl
scan_index (suc n) v (e ∷ es) s l = scan_index (suc n) v es (candidate (leb v e.weakest) e.union (candidate (leb v e.gust) e.strongest s)) l

-- where none is struck, all stand, and no page is freed
pub all_stand : (b : Box) (v : ℕ) (es : List Entry) → struck_of b v es ≡ [] → rest b v es ≡ es
unfolding select
all_stand b v [] h = refl
all_stand b v (e ∷ es) h = by_test (is_struck b v e) (λ z. all_stand b v es z) h
  where
    by_test : (t : Bool) → (select (is_struck b v) es ≡ [] → select (λ x. not (is_struck b v x)) es ≡ es) → cons_if t e (select (is_struck b v) es) ≡ [] → cons_if (not t) e (select (λ x. not (is_struck b v x)) es) ≡ e ∷ es
    by_test true k z = let y = ap length z in absurd (omega arith)
    by_test false k z = ap (λ xs. e ∷ xs) (k z)

pub nothing_struck : (n : ℕ) (b : Box) (v : ℕ) (ps : List Page) (es : List Entry) → struck_of b v es ≡ [] → strike n b v ps es ≡ record { pages = ps; records = 0 }
unfolding strike strike_all
nothing_struck n b v ps es h = ap (strike_all (strike_one n) ps) h
