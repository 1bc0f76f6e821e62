-- Step 3 in the code's order.
use Rattle.std.specs.Prelude.{ℕ, zero, suc, ◌+◌, ◌≤◌, ◌<◌, Bool, true, false, not, List, ◌≡◌, refl, [], ◌∷◌, ◌++◌, leb, length, get_or, take}
use Rattle.std.proofs.Common.{sym, ap, ap₂, ◌∙◌, add-one, arith, take-suc}
use Rattle.std.proofs.lemmas.Bool.{not-true, not-false}
use Rattle.ground.specs.Cutting.{cut}
use Rattle.ground.specs.declared.boxes.Box.{Box}
use Rattle.ground.specs.declared.boxes.Cut.{Cut}
use Rattle.pages.specs.Layout.{zero_entry}
use Rattle.pages.specs.declared.Entry.{Entry}
use Rattle.rules.specs.Scan.{Sought, met, meets, candidate, scan_entry, scan}

pub scan_none : (n v : ℕ) (s : Sought) → s ≡ scan n v [] s
unfolding scan
scan_none n v s = refl

pub leaf_scanned : (v : ℕ) (e : Entry) (s r : Sought) → r ≡ candidate (leb v e.gust) e.place s → r ≡ scan_entry 0 v e s
unfolding scan_entry
leaf_scanned v e s r h = h

pub index_scanned : (n v : ℕ) (e : Entry) (s m r : Sought) → 0 < n → m ≡ candidate (leb v e.gust) e.strongest s → r ≡ candidate (leb v e.weakest) e.union m → r ≡ scan_entry n v e s
unfolding scan_entry
index_scanned zero v e s m r o p q = absurd (omega arith)
index_scanned (suc n) v e s m r o p q = q ∙ ap (candidate (leb v e.weakest) e.union) p

-- one entry more
one_more : (n v : ℕ) (es : List Entry) (e : Entry) (s : Sought) → scan n v (es ++ (e ∷ [])) s ≡ scan_entry n v e (scan n v es s)
unfolding scan
one_more n v [] e s = refl
one_more n v (x ∷ xs) e s = one_more n v xs e (scan_entry n v x s)

pub scan_more : (n v i : ℕ) (es : List Entry) (e : Entry) (s found : Sought) → i < length es → e ≡ get_or es i zero_entry → found ≡ scan n v (take i es) s → scan_entry n v e found ≡ scan n v (take (i + 1) es) s
scan_more n v i es e s found l d h = rw (add-one i, take-suc es i zero_entry l, ← d) (ap (scan_entry n v e) h ∙ sym (one_more n v (take i es) e s))
