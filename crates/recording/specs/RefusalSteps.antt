-- The refusals in the code's order, and what a book that is not refused is known by.
use Rattle.std.specs.Prelude.{Ok, Err, cond, ℕ, ◌+◌, ◌<◌, Bool, true, false, not, List, ◌≡◌, leb, ltb, eqb, length}
use Rattle.std.proofs.Math.Path.{sym}
use Rattle.std.proofs.Common.{arith}
use borrow.Author.Tests.{eq-eqb, ne_eqb, leb-true, eqb-true, ltb-true, le-ltb, lt-ltb, leb-false}
use Rattle.ground.specs.Boxes.{legal, gust_passes}
use Rattle.ground.specs.Tests.{both, three}
use Rattle.ground.specs.Refusals.{number}
use Rattle.ground.specs.declared.boxes.Box.{Box}
use Rattle.ground.specs.declared.refusals.Refusal.{Refusal}
use Rattle.ground.specs.declared.refusals.Refusal.TheVariants as no
use Rattle.pages.specs.Facts.{fitting}
use Rattle.pages.specs.Free.{free_count}
use Rattle.pages.specs.Layout.{table_fits, pages_of}
use Rattle.pages.specs.LayoutLaws.{pages_length}
use Rattle.pages.specs.declared.Small.{Small}
use Rattle.wellformed.specs.Parts.{parts}
use Rattle.wellformed.specs.WellFormed.{checked, well_formed, most_accepted, held_records, root_stands, counts_stand, page}
use Rattle.rules.specs.Record.{first_of, refusal}
use Rattle.recording.specs.RecordSteps.{SoundSmall}

-- what of the refusals the record alone decides, and what the book alone, if it is sound
abbrev pub of_the_record : Box → ℕ → ℕ
of_the_record b v = first_of (not (legal b)) 2 (first_of (not (gust_passes (record { tenths = v }))) 3 0)

abbrev pub of_the_book : List ℕ → Small → ℕ
of_the_book t s = first_of (eqb s.accepted most_accepted) 5 (first_of (ltb (free_count (pages_of t)) (s.height + 1)) 6 0)

pub positive : (r : Refusal) → 0 < number r
positive no.Table = omega arith
positive no.Box = omega arith
positive no.Gust = omega arith
positive no.Damaged = omega arith
positive no.Spent = omega arith
positive no.Full = omega arith
positive no.Size = omega arith
positive no.Trailer = omega arith
positive no.Line = omega arith
positive no.Strip = omega arith
positive no.Sheet = omega arith

module _ (t : List ℕ) (s : Small) (b : Box) (v : ℕ) where
  pub no_table : table_fits t ≡ false → 1 ≡ refusal t s b v
  unfolding refusal
  no_table f = rw f

  -- the record's own refusals come before those of the book
  pub by_record : (n : ℕ) → table_fits t ≡ true → n ≡ of_the_record b v → 0 < n → n ≡ refusal t s b v
  unfolding refusal
  by_record n f e l = rw f (by_tests (legal b) (gust_passes (record { tenths = v })) e)
    where
      by_tests : (c d : Bool) → n ≡ first_of (not c) 2 (first_of (not d) 3 0) → n ≡ first_of (not c) 2 (first_of (not d) 3 (first_of (not (well_formed t s)) 4 (of_the_book t s)))
      by_tests false d h = h
      by_tests true false h = h
      by_tests true true h = absurd (omega arith)

  passed : (n : ℕ) → 0 ≡ of_the_record b v → table_fits t ≡ true → n ≡ first_of (not (well_formed t s)) 4 (of_the_book t s) → n ≡ refusal t s b v
  unfolding refusal
  passed n e f h = rw f (by_tests (legal b) (gust_passes (record { tenths = v })) e)
    where
      by_tests : (c d : Bool) → 0 ≡ first_of (not c) 2 (first_of (not d) 3 0) → n ≡ first_of (not c) 2 (first_of (not d) 3 (first_of (not (well_formed t s)) 4 (of_the_book t s)))
      by_tests false d k = absurd (omega arith)
      by_tests true false k = absurd (omega arith)
      by_tests true true k = h

  pub damaged : (r : Refusal) → 0 ≡ of_the_record b v → table_fits t ≡ true → Err r ≡ checked t s → number r ≡ refusal t s b v
  unfolding checked
  damaged r e f h = passed (number r) e f (by_test (well_formed t s) h)
    where
      by_test : (w : Bool) → Err r ≡ cond w (Ok (length (held_records (pages_of t) s))) (Err no.Damaged) → number r ≡ first_of (not w) 4 (of_the_book t s)
      by_test true k = cc
      by_test false k = let z : r ≡ no.Damaged = cc in rw z

  pub by_book : (n : ℕ) → 0 ≡ of_the_record b v → table_fits t ≡ true → well_formed t s ≡ true → n ≡ of_the_book t s → n ≡ refusal t s b v
  by_book n e f w h = passed n e f (rw w h)

-- a book that is well-formed
pub sound_small : (t : List ℕ) (s : Small) → well_formed t s ≡ true → SoundSmall t s
unfolding root_stands counts_stand
sound_small t s e =
    let p = parts t s e in
    let r = three (ltb s.root (length (pages_of t))) (eqb (page (pages_of t) s.root).level s.height) (leb 1 s.height) p.root in
    let c = both (leb s.accepted most_accepted) (eqb (length (held_records (pages_of t) s) + s.struck + s.covered) s.accepted) p.counts in
    let a = leb-true s.accepted most_accepted c.0 in
    let k = eqb-true (length (held_records (pages_of t) s) + s.struck + s.covered) s.accepted c.1 in
    record {
      fits = p.fits;
      root = omega (arith, ltb-true s.root (length (pages_of t)) r.0, pages_length t, (fitting t p.fits).most);
      height = leb-true 1 s.height r.2;
      accepted = a;
      struck = omega arith;
      covered = omega arith;
    }
