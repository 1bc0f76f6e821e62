-- The tests on tables as facts on numbers, which arithmetic reads.
use Rattle.std.specs.Prelude.{true, List, ◌≡◌, ℕ, ◌+◌, ◌*◌, ◌≤◌, ◌<◌, leb, eqb, length}
use Rattle.std.proofs.Common.{leb-true, le-leb, eqb-true, eq-eqb, arith}
use Rattle.ground.specs.Tests.{three, joint_three}
use Rattle.pages.specs.Layout.{page_words, most_pages, pages_in, table_fits}

pub record Fitting (t : List ℕ) : Type 0 where
  pub some : 1 ≤ pages_in t
  pub most : pages_in t ≤ most_pages
  pub whole : pages_in t * page_words ≡ length t

pub fitting : (t : List ℕ) → table_fits t ≡ true → Fitting t
fitting t e =
    let h = three (leb 1 (pages_in t)) (leb (pages_in t) most_pages) (eqb (pages_in t * page_words) (length t)) e in
    record { some = leb-true 1 (pages_in t) h.0; most = leb-true (pages_in t) most_pages h.1; whole = eqb-true (pages_in t * page_words) (length t) h.2 }

pub fits_so : (t : List ℕ) → Fitting t → table_fits t ≡ true
fits_so t h =
    joint_three (leb 1 (pages_in t)) (leb (pages_in t) most_pages) (eqb (pages_in t * page_words) (length t))
    (le-leb 1 (pages_in t) h.some) (le-leb (pages_in t) most_pages h.most) (eq-eqb (pages_in t * page_words) (length t) h.whole)

-- page p lies in the table, and its number is one that a table may have
pub record InTable (t : List ℕ) (p : ℕ) : Type 0 where
  pub inside : p * page_words + page_words ≤ length t
  pub number : p < most_pages

pub in_table : (t : List ℕ) (p : ℕ) → table_fits t ≡ true → p < pages_in t → InTable t p
in_table t p e h = let f = fitting t e in record { inside = omega arith; number = omega arith }

-- a page in the table is one of its whole pages
pub in_pages : (t : List ℕ) (p : ℕ) → InTable t p → p < pages_in t
in_pages t p h = omega arith

-- only the length counts
pub still_in_table : (t u : List ℕ) (p : ℕ) → length u ≡ length t → InTable t p → InTable u p
still_in_table t u p e h = omega arith
