-- A well-formed book, condition by condition.
use Rattle.std.specs.Prelude.{true, ◌&&◌, List, ◌≡◌, ℕ, length}
use Rattle.ground.specs.Tests.{both}
use Rattle.pages.specs.Layout.{table_fits, pages_of}
use Rattle.pages.specs.declared.Small.{Small}
use Rattle.wellformed.specs.WellFormed.{every_below, page, held_records, root_stands, children_lower, reached_once, page_stands, counts_stand, pages_stand, well_formed}

pub record Parts (t : List ℕ) (s : Small) : Type 0 where
  pub fits : table_fits t ≡ true
  pub root : root_stands (pages_of t) s ≡ true
  pub lower : every_below (children_lower (pages_of t)) (length (pages_of t)) ≡ true
  pub reached : every_below (reached_once (pages_of t) s) (length (pages_of t)) ≡ true
  pub stand : every_below (λ p. page_stands (pages_of t) s p (page (pages_of t) p)) (length (pages_of t)) ≡ true
  pub counts : counts_stand s (length (held_records (pages_of t) s)) ≡ true

module _ (t : List ℕ) (s : Small) where
  pub parts : well_formed t s ≡ true → Parts t s
  unfolding well_formed pages_stand
  parts e =
      let r = root_stands (pages_of t) s in
      let l = every_below (children_lower (pages_of t)) (length (pages_of t)) in
      let o = every_below (reached_once (pages_of t) s) (length (pages_of t)) in
      let p = every_below (λ p. page_stands (pages_of t) s p (page (pages_of t) p)) (length (pages_of t)) in
      let a = both (table_fits t) (r && l && o && p && counts_stand s (length (held_records (pages_of t) s))) e in
      let b = both (r && l && o && p) (counts_stand s (length (held_records (pages_of t) s))) a.1 in
      let c = both (r && l && o) p b.0 in
      let d = both (r && l) o c.0 in
      let f = both r l d.0 in
      record { fits = a.0; root = f.0; lower = f.1; reached = d.1; stand = c.1; counts = b.1 }

  pub whole : Parts t s → well_formed t s ≡ true
  unfolding well_formed pages_stand
  whole h = rw (h.fits, h.root, h.lower, h.reached, h.stand, h.counts)
