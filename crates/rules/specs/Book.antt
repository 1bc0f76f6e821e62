-- A sound book as a tree in its store, and recording on it: the book stays sound, the answers are kept, the struck count is exact.
use Rattle.std.specs.Prelude.{Bool, true, false, cond, List, ◌≡◌, refl, ℕ, zero, suc, ◌+◌, ◌-◌, max, ◌≤◌, eqb, length}
use Rattle.std.proofs.Common.{eqb-true, ne_eqb}
use Rattle.std.proofs.Math.Path.{ap}
use native.Mathlib.Omega.{arith}
use Rattle.ground.specs.Boxes.{covers, legal}
use Rattle.ground.specs.Sums.{total, total_zero}
use Rattle.ground.specs.declared.boxes.Box.{Box}
use Rattle.pages.specs.Free.{free_count}
use Rattle.pages.specs.Summary.{in_use}
use Rattle.pages.specs.declared.Entry.{Entry}
use Rattle.pages.specs.declared.Page.{Page}
use Rattle.pages.specs.declared.Small.{Small}
use Rattle.split.specs.SplitLaws.{weigh}
use Rattle.wellformed.specs.WellFormed.{page, most_accepted}
use Rattle.rules.specs.CameLaws.{kept, kept_if}
use Rattle.rules.specs.Frame.{root_load, root_records}
use Rattle.rules.specs.Lists.{best_of}
use Rattle.rules.specs.Moves.{only, free, Clean}
use Rattle.rules.specs.Recording.{Outcome, Outcome.Kept, Outcome.Cut, Outcome.Covered, Recorded}
use Rattle.rules.specs.Score.{score}
use Rattle.rules.specs.Tree.{hit, Stands, Sound}

pub record Book (ps : List Page) (s : Small) : Type 0 where
  pub levels : ℕ
  pub height : s.height ≡ suc levels
  -- the tree at the root is sound
  pub tree : Stands ps levels s.root (Sound ps levels)
  pub wide : 1 ≤ levels → 2 ≤ length (in_use (page ps s.root))
  -- its pages and the free ones are all pages, each once
  pub whole : (h : ℕ → ℕ) → free ps h + root_load ps levels s.root h ≡ total h (length ps)
  pub clean : Clean ps
  pub few : s.accepted ≤ most_accepted
  pub counts : length (root_records ps levels s.root) + s.struck + s.covered ≡ s.accepted

-- a page is counted once at most
pub total_only : (q n : ℕ) → total (only q) n ≤ 1
unfolding total
total_only q zero = omega arith
total_only q (suc n) = by_test (eqb q n) refl (total_only q n)
  where
    by_test : (b : Bool) → eqb q n ≡ b → total (only q) n ≤ 1 → total (only q) n + cond (eqb q n) 1 0 ≤ 1
    by_test true e h =
        let d : q ≡ n = eqb-true q n e in
        let z = total_zero (only q) n (λ i l. ap (λ (b : Bool). cond b 1 0) (ne_eqb q i (λ x. omega arith))) in
        rw e (omega arith)
    by_test false e h = rw e (omega arith)

-- Whether an answer is Covered.
abbrev pub says_covered : Outcome → Bool
says_covered Kept = false
says_covered Cut = false
says_covered Covered = true

pub says_covered_lem : (o c : Bool) → says_covered (cond o Covered (cond c Cut Kept)) ≡ o
says_covered_lem true c = refl
says_covered_lem false true = refl
says_covered_lem false false = refl

-- What a record leaves on a sound book.
pub record Leaves (ps : List Page) (s : Small) (book : Book ps s) (b : Box) (v : ℕ) (r : Recorded) : Type 0 where
  pub after : Book r.pages r.small
  pub same_length : length r.pages ≡ length ps
  -- the records that left are as many as were struck; but for them and the new one, if it is kept, the records are the same
  pub gone : List Entry
  pub counted : r.answer.struck ≡ length gone
  -- the new record is what is left of b, with v; there is none for Covered
  pub left : Box
  pub inside : covers b left ≡ true
  pub same : (g : Entry → ℕ) → weigh g (root_records r.pages after.levels r.small.root) + weigh g gone ≡ weigh g (root_records ps book.levels s.root) + weigh g (kept_if (says_covered r.answer.outcome) left v)
  -- at most height + 1 free pages are used up
  pub spent : free_count ps ≤ free_count r.pages + (s.height + 1)
  -- every answer is the greater of the one before and the new record, as handed in
  pub answers : (q : Box) → legal q ≡ true → best_of (hit q) (root_records r.pages after.levels r.small.root) ≡ max (best_of (hit q) (root_records ps book.levels s.root)) (score q b v)
