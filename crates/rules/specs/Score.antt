-- What a record counts for a question: Nothing is 0 and a gust is gust + 1. What one candidate, and a whole scan, does to it.
use Rattle.std.specs.Prelude.{Bool, cond, ◌||◌, ◌≡◌, leb}
use Rattle.std.proofs.Math.Bool.{true, false}
use Rattle.std.proofs.lemmas.Bool.{false≢true}
use mathlib.Core.List.{List, [], ◌∷◌}
use Rattle.std.proofs.Math.Path.{refl}
use Rattle.std.proofs.Common.{sym, ◌∙◌, le_trans, arith, leb-true}
use Prim.Native.Nat.{ℕ, zero, suc, ◌+◌, max, ◌≤◌}
use Rattle.ground.specs.BoxLaws.{covers_self, covers_trans, covers_touched}
use Rattle.ground.specs.Boxes.{touches, covers, legal}
use Rattle.ground.specs.CutLaws.{CutLaw, cut_law, covered_covers}
use Rattle.ground.specs.Cutting.{cut, removed}
use Rattle.ground.specs.Tests.{both, joint}
use Rattle.ground.specs.declared.boxes.Box.{Box}
use Rattle.ground.specs.declared.boxes.Cut.{Cut}
use Rattle.ground.specs.declared.boxes.Cut.TheVariants.{Covered, Left, Unchanged}
use Rattle.pages.specs.declared.Entry.{Entry}
use Rattle.split.specs.SplitLaws.{Each}
use Rattle.rules.specs.Scan.{Sought, met, meets, candidate, scan_entry, scan}
use Rattle.rules.specs.Strike.{is_struck}
unfoldable pub use Rattle.asking.specs.BoxMax.{score}

abbrev pub score_if : Bool → ℕ → ℕ
score_if t v = cond t (v + 1) 0

-- a greater gust and a covering box count no less
pub score_gust : (q b : Box) (v w : ℕ) → v ≤ w → score q b v ≤ score q b w
unfolding score
score_gust q b v w h = by_test (touches q b)
  where
    by_test : (t : Bool) → score_if t v ≤ score_if t w
    by_test true = omega arith
    by_test false = omega arith

pub score_covers : (q a b : Box) (v : ℕ) → covers a b ≡ true → score q b v ≤ score q a v
unfolding score
score_covers q a b v h = by_test (touches q b) (touches q a) (λ t. covers_touched a b q h t)
  where
    by_test : (t u : Bool) → (t ≡ true → u ≡ true) → score_if t v ≤ score_if u v
    by_test true true f = omega arith
    by_test true false f = absurd (false≢true (f refl))
    by_test false u f = omega arith

pub score_within : (q a b : Box) (v w : ℕ) → covers a b ≡ true → v ≤ w → score q b v ≤ score q a w
score_within q a b v w h k = le_trans (score_covers q a b v h) (score_gust q a v w k)

-- what is struck counts no more than the new record
pub struck_less : (q b : Box) (v : ℕ) (e : Entry) → is_struck b v e ≡ true → score q e.place e.gust ≤ score q b v
struck_less q b v e p = let h = both (covers b e.place) (leb e.gust v) p in score_within q b e.place e.gust v h.0 (leb-true e.gust v h.1)

-- a struck entry stays struck for a greater box
pub struck_wider : (a b : Box) (v : ℕ) (e : Entry) → covers a b ≡ true → is_struck b v e ≡ true → is_struck a v e ≡ true
struck_wider a b v e c p =
    let h = both (covers b e.place) (leb e.gust v) p in
    joint (covers a e.place) (leb e.gust v) (covers_trans a b e.place c h.0) h.1

-- a cut leaves the greater of what stays and the new record as it was: the candidate covers what is removed
pub cut_score : (q c b l : Box) (v : ℕ) → legal q ≡ true → CutLaw c b l (removed c b) → score q b v ≤ max (score q l v) (score q c v)
unfolding score
cut_score q c b l v e h =
    by_test (touches q b) (touches q l) (touches q (removed c b)) (touches q c) (h.touched q e) (λ t. covers_touched c (removed c b) q h.away_covered t)
  where
    by_test : (t l a c : Bool) → t ≡ l || a → (a ≡ true → c ≡ true) → score_if t v ≤ max (score_if l v) (score_if c v)
    by_test false l a c p f = omega arith
    by_test true true a c p f = omega arith
    by_test true false true true p f = omega arith
    by_test true false true false p f = absurd (false≢true (f refl))
    by_test true false false c p f = absurd (false≢true (sym p))

-- What a scan over candidates that count at most B keeps, from s to t.
pub record Scanned (v : ℕ) (B : Box → ℕ) (s t : Sought) : Type 0 where
  pub kept : (q : Box) → legal q ≡ true → max (B q) (score q t.box v) ≡ max (B q) (score q s.box v)
  pub covered : t.is_covered ≡ true → (q : Box) → legal q ≡ true → score q t.box v ≤ B q
  pub inside : covers s.box t.box ≡ true
  pub lawful : legal s.box ≡ true → legal t.box ≡ true

-- a state that is not yet covered, or is so truly
abbrev pub Truly : ℕ → (Box → ℕ) → Sought → Type 0
Truly v B s = s.is_covered ≡ true → (q : Box) → legal q ≡ true → score q s.box v ≤ B q

module _ (v : ℕ) (B : Box → ℕ) where
  pub scanned_none : (s : Sought) → Truly v B s → Scanned v B s s
  scanned_none s h = record { kept = λ q e. refl; covered = h; inside = covers_self s.box; lawful = λ e. e }

  pub scanned_then : (s t u : Sought) → Scanned v B s t → Scanned v B t u → Scanned v B s u
  scanned_then s t u h k =
      record {
        kept = λ q e. k.kept q e ∙ h.kept q e;
        covered = k.covered;
        inside = covers_trans s.box t.box u.box h.inside k.inside;
        lawful = λ e. k.lawful (h.lawful e);
      }

  module _ (c : Box) (s : Sought) (below : (q : Box) → legal q ≡ true → score q c v ≤ B q) (truly : Truly v B s) where
    met_law : (o : Cut) → cut c s.box ≡ o → Scanned v B s (met o s)
    met_law Covered p =
        record {
          kept = λ q e. refl;
          covered = λ f q e. le_trans (score_covers q c s.box v (covered_covers c s.box p)) (below q e);
          inside = covers_self s.box;
          lawful = λ e. e;
        }
    met_law (Left l) p =
        let h = cut_law c s.box l p in
        record {
          kept = λ q e. let a = cut_score q c s.box l v e h in let k = below q e in let m = score_covers q s.box l v h.left_inside in omega arith;
          covered = λ f q e. let m = score_covers q s.box l v h.left_inside in le_trans m (truly f q e);
          inside = h.left_inside;
          lawful = h.left_legal;
        }
    met_law Unchanged p = scanned_none s truly

  pub candidate_law : (t : Bool) (c : Box) (s : Sought) → (t ≡ true → (q : Box) → legal q ≡ true → score q c v ≤ B q) → Truly v B s → Scanned v B s (candidate t c s)
  unfolding candidate
  candidate_law t c s below truly = by_test s.is_covered t below
    where
      by_test : (o t : Bool) → (t ≡ true → (q : Box) → legal q ≡ true → score q c v ≤ B q) → Scanned v B s (meets o t c s)
      by_test true t f = scanned_none s truly
      by_test false true f = met_law c s (f refl) truly (cut c s.box) refl
      by_test false false f = scanned_none s truly

-- The candidates of an entry count at most B.
pub record Candidates (n v : ℕ) (B : Box → ℕ) (e : Entry) : Type 0 where
  pub leaf : n ≡ 0 → v ≤ e.gust → (q : Box) → legal q ≡ true → score q e.place v ≤ B q
  pub strongest : 1 ≤ n → v ≤ e.gust → (q : Box) → legal q ≡ true → score q e.strongest v ≤ B q
  pub union : 1 ≤ n → v ≤ e.weakest → (q : Box) → legal q ≡ true → score q e.union v ≤ B q

module _ (v : ℕ) (B : Box → ℕ) where
  pub scan_entry_law : (n : ℕ) (e : Entry) (s : Sought) → Candidates n v B e → Truly v B s → Scanned v B s (scan_entry n v e s)
  unfolding scan_entry
  scan_entry_law zero e s h k = candidate_law v B (leb v e.gust) e.place s (λ t. h.leaf refl (leb-true v e.gust t)) k
  scan_entry_law (suc n) e s h k =
      let t = candidate (leb v e.gust) e.strongest s in
      let a = candidate_law v B (leb v e.gust) e.strongest s (λ t. h.strongest (omega arith) (leb-true v e.gust t)) k in
      let b = candidate_law v B (leb v e.weakest) e.union t (λ t. h.union (omega arith) (leb-true v e.weakest t)) a.covered in
      scanned_then v B s t (candidate (leb v e.weakest) e.union t) a b

  pub scan_law : (n : ℕ) (es : List Entry) (s : Sought) → Each (Candidates n v B) es → Truly v B s → Scanned v B s (scan n v es s)
  unfolding scan
  scan_law n [] s p k = scanned_none v B s k
  scan_law n (e ∷ es) s p k =
      let a = scan_entry_law n e s p.0 k in
      scanned_then v B s (scan_entry n v e s) (scan n v es (scan_entry n v e s)) a (scan_law n es (scan_entry n v e s) p.1 a.covered)
