-- What a scan leaves of the box lies where the box lay.
use Rattle.std.specs.Prelude.{ℕ, true, List, [], ◌∷◌, ◌≡◌}
use Rattle.std.proofs.Common.{arith, subst, sym}
use Rattle.ground.specs.Boxes.{legal}
use Rattle.ground.specs.Facts.{lawful}
use Rattle.ground.specs.declared.boxes.Box.{Box}
use Rattle.pages.specs.declared.Entry.{Entry}
use Rattle.recording.specs.LookSteps.{Within, entry_within}
use Rattle.rules.specs.Scan.{Sought, scan_entry, scan}

pub legal_within : (b : Box) → legal b ≡ true → Within b b
legal_within b e =
    let h = lawful b e in
    record { east = record { low_from = omega arith; low_to = omega arith; high_from = omega arith; high_to = omega arith }; north = record { low_from = omega arith; low_to = omega arith; high_from = omega arith; high_to = omega arith }; day = record { low_from = omega arith; low_to = omega arith; high_from = omega arith; high_to = omega arith } }

pub scan_within : (q : Box) (n v : ℕ) (es : List Entry) (s : Sought) → Within q s.box → Within q (scan n v es s).box
unfolding scan
scan_within q n v [] s w = w
scan_within q n v (e ∷ es) s w = scan_within q n v es (scan_entry n v e s) (entry_within q n v e s w)

-- so far
pub still_within : (q : Box) (n v : ℕ) (es : List Entry) (s found : Sought) → Within q s.box → found ≡ scan n v es s → Within q found.box
still_within q n v es s found w e = subst (λ (x : Sought). Within q x.box) (sym e) (scan_within q n v es s w)
