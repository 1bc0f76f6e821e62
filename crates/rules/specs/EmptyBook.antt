-- The empty book is well-formed, and holds nothing.
use Rattle.std.specs.Prelude.{true, List, ◌∷◌, ◌≡◌, refl, length, get_or, replicate}
use Rattle.std.proofs.Math.Bool.{cond}
use Rattle.std.proofs.lemmas.Bool.{false≢true}
use Rattle.std.proofs.Common.{sym, ◌∙◌, subst}
use Rattle.std.proofs.Math.Path.{ap}
use Prim.Native.Nat.{ℕ, zero, suc, ◌+◌, ◌-◌}
use native.Mathlib.Omega.{arith}
use Rattle.ground.specs.Sums.{total}
use Rattle.pages.specs.Free.{is_free, empty_leaf, empty_small, empty_table}
use Rattle.pages.specs.FreeLaws.{empty_length, empty_pages_lem}
use Rattle.pages.specs.Layout.{free_page, table_fits, pages_in}
use Rattle.pages.specs.LayoutLaws.{fits_alike}
use Rattle.pages.specs.declared.Page.{Page}
use Rattle.split.specs.Split.{page_from}
use Rattle.split.specs.SplitLaws.{weigh}
use Rattle.wellformed.specs.Parts.{whole}
use Rattle.wellformed.specs.WellFormed.{page, well_formed}
use mathlib.Core.List.{flat_map}
use Rattle.rules.specs.Book.{Book}
use Rattle.rules.specs.FromWellFormed.{Conditions}
use Rattle.rules.specs.Frame.{root_load}
use Rattle.rules.specs.Moves.{free_at, free, Clean, total_change}
use Rattle.rules.specs.ToWellFormed.{conditions}

module _ (k : ℕ) where
  ps : List Page
  ps = empty_leaf ∷ replicate k free_page

  others_free : (k q : ℕ) → get_or (replicate k free_page) q free_page ≡ free_page
  others_free zero q = refl
  others_free (suc k) zero = refl
  others_free (suc k) (suc q) = others_free k q

  other : (q : ℕ) → (q ≡ 0 → ⊥) → page ps q ≡ free_page
  unfolding ps
  other zero d = absurd (d refl)
  other (suc q) d = others_free k q

  clean : Clean ps
  unfolding ps
  clean zero e = absurd (false≢true e)
  clean (suc q) e = others_free k q

  all_pages : (h : ℕ → ℕ) → free ps h + root_load ps 0 0 h ≡ total h (length ps)
  unfolding free weigh ps
  all_pages h =
      let a = total_change (free_at ps h) h 0 (length ps) (omega arith) (λ q l d. ap (λ (x : Page). cond (is_free x) (h q) 0) (other q d)) in
      omega arith

  empty_book_lem : Book ps empty_small
  unfolding ps page_from flat_map
  empty_book_lem =
      record {
        levels = 0;
        height = refl;
        tree = record { inside = omega arith; form = refl; most = omega arith; each = tt };
        wide = λ l. absurd (omega arith);
        whole = all_pages;
        clean = clean;
        few = omega arith;
        counts = refl;
      }

  pub empty_conditions : Conditions (empty_leaf ∷ replicate k free_page) empty_small
  unfolding ps
  empty_conditions = conditions ps empty_small empty_book_lem

pub empty_well_formed : (t : List ℕ) → table_fits t ≡ true → well_formed (empty_table t) empty_small ≡ true
empty_well_formed t e =
    let c = subst (λ (qs : List Page). Conditions qs empty_small) (sym (empty_pages_lem t e)) (empty_conditions (pages_in t - 1)) in
    whole (empty_table t) empty_small
    (record { fits = fits_alike t (empty_table t) (empty_length t) ∙ e; root = c.root; lower = c.lower; reached = c.reached; stand = c.stand; counts = c.counts })
