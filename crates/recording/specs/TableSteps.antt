-- The table as the definitions read it, step by step: a page loaded, stored, freed or summed up, inside the table and past its end.
use Rattle.std.specs.Prelude.{Some, None, min, ℕ, ◌≤◌, ◌<◌, true, List, ◌≡◌, refl, eqb, length, get_or, slice_get, take, set, replicate, unwrap_or}
use Rattle.std.proofs.Common.{sym, ap, ◌∙◌, ⊎_elim, arith, eq-eqb, eqb-true, length-take, length-set, take_all}
use Rattle.ground.specs.Tests.{below_or_not, same_test}
use Rattle.std.proofs.Math.ListN.{get_or-eq_default}
use Rattle.std.proofs.Math.Seq.{set_out}
use Rattle.std.proofs.lemmas.Option.{get_or_from_slice_get, slice_get_within, unwrap_or-slice_get}
use Rattle.pages.specs.Facts.{in_table}
use Rattle.pages.specs.GatherLaws.{empty_summary, summary_none}
use Rattle.pages.specs.Layout.{page_entries, pages_in, table_fits, page_at, zero_entry, put_page, with_entry, pages_of, free_page}
use Rattle.pages.specs.LayoutLaws.{put_length, page_eight, put_pages, pages_at, pages_length, fits_alike}
use Rattle.pages.specs.Summary.{in_use, summary_of}
use Rattle.pages.specs.ViewLaws.{used_entry}
use Rattle.pages.specs.declared.Entry.{Entry}
use Rattle.pages.specs.declared.Page.{Page}
use Rattle.std.specs.Array.{AllOfLen}
use Rattle.std.proofs.lemmas.List.FromFn.{fill_by_all}
use Rattle.wellformed.specs.WellFormed.{page}
use Rattle.recording.specs.Views.{Leaves}

-- page p where it lies, and past the end a free page
pub page_lying : (t : List ℕ) (p : ℕ) (x : Page) → slice_get (pages_of t) p ≡ Some x → x ≡ page (pages_of t) p
page_lying t p x h = sym (get_or_from_slice_get (pages_of t) p x free_page h)

pub page_lacking : (t : List ℕ) (p : ℕ) → slice_get (pages_of t) p ≡ None → free_page ≡ page (pages_of t) p
page_lacking t p h = sym (ap (λ o. unwrap_or o free_page) h) ∙ unwrap_or-slice_get (pages_of t) p free_page

-- it has eight entries
pub page_lying_eight : (t : List ℕ) (p : ℕ) (x : Page) → slice_get (pages_of t) p ≡ Some x → length x.entries ≡ page_entries
page_lying_eight t p x h =
    let inside : p < pages_in t = omega (arith, slice_get_within (pages_of t) p x h, pages_length t) in
    ap (λ (y : Page). length y.entries) (page_lying t p x h ∙ pages_at t p inside) ∙ page_eight t p

-- a page that is 0 throughout is a free page
pub default_page : (x : Page) (P : Entry → Type 0) → ((e : Entry) → P e → e ≡ zero_entry) → x.level ≡ 0 → x.count ≡ 0 → AllOfLen P x.entries page_entries → x ≡ free_page
default_page x P zero l n h =
    let es : x.entries ≡ replicate page_entries zero_entry = fill_by_all (λ _. zero_entry) x.entries page_entries zero_entry h.long (λ k m. zero (get_or x.entries k zero_entry) (h.at k zero_entry m)) in
    λ i. record { level = l i; count = n i; entries = es i }

pub store_in : (t u : List ℕ) (p : ℕ) (x : Page) → table_fits t ≡ true → p < pages_in t → length x.entries ≡ page_entries → u ≡ put_page t p x → Leaves t u (set (pages_of t) p x)
store_in t u p x f h n e =
    let i = in_table t p f h in
    record { same_length = ap length e ∙ put_length t p x i n; pages_are = ap pages_of e ∙ put_pages t p x i n }

pub store_out : (t : List ℕ) (p : ℕ) (x : Page) → pages_in t ≤ p → Leaves t t (set (pages_of t) p x)
store_out t p x h = record { same_length = refl; pages_are = sym (set_out (pages_of t) p x (omega (arith, pages_length t))) }

pub summary_out : (t : List ℕ) (p : ℕ) (r : Entry) → slice_get (pages_of t) p ≡ None → r ≡ empty_summary p → r ≡ summary_of p (page (pages_of t) p)
unfolding summary_of
summary_out t p r h e = e ∙ summary_none p 0 (in_use free_page) refl ∙ ap (summary_of p) (page_lacking t p h)

-- a table that is as long fits too
pub still_fits : (t u : List ℕ) → table_fits t ≡ true → length u ≡ length t → table_fits u ≡ true
still_fits t u f e = fits_alike t u e ∙ f

-- the entries in use, of eight
pub in_use_most : (n : ℕ) (es : List Entry) (k : ℕ) → length es ≡ page_entries → (m : ℕ) → k ≡ min m page_entries → m ≡ n → take k es ≡ take n es
in_use_most n es k e m h d = ⊎_elim (λ (l : n < page_entries). ap (λ j. take j es) (few l)) (λ (l : page_entries ≤ n). take_all k es (omega (arith, all l)) ∙ sym (take_all n es (omega arith))) (below_or_not n page_entries)
  where
    few : n < page_entries → k ≡ n
    few l = omega arith

    all : page_entries ≤ n → page_entries ≤ k
    all l = omega arith

pub used_most : (x : Page) → length x.entries ≡ page_entries → length (in_use x) ≤ page_entries
used_most x e = omega (arith, length-take x.count x.entries)

-- how many entries of page p are in use, and that there is such a page if some are
pub record UsedAt (t : List ℕ) (p r : ℕ) : Type 0 where
  pub is : r ≡ length (in_use (page (pages_of t) p))
  pub most : r ≤ page_entries
  pub inside : 0 < r → p < pages_in t

pub used_in : (t : List ℕ) (p r : ℕ) (x : Page) → slice_get (pages_of t) p ≡ Some x → (r ≤ page_entries) × (r ≡ length (in_use x)) → UsedAt t p r
used_in t p r x h e = record { is = e.1 ∙ ap (λ (y : Page). length (in_use y)) (page_lying t p x h); most = e.0; inside = λ k. omega (arith, slice_get_within (pages_of t) p x h, pages_length t) }

pub used_out : (t : List ℕ) (p : ℕ) → slice_get (pages_of t) p ≡ None → UsedAt t p 0
used_out t p h = record { is = ap (λ (y : Page). length (in_use y)) (page_lacking t p h); most = omega arith; inside = λ k. absurd (omega arith) }

-- the child at a place of page p: past the entries in use, that of an entry that is 0
pub child_there : (t : List ℕ) (p i c : ℕ) (x : Page) (e : Entry) → slice_get (pages_of t) p ≡ Some x → i < length (in_use x) → e ≡ get_or x.entries i zero_entry → c ≡ e.child → c ≡ (get_or (in_use (page (pages_of t) p)) i zero_entry).child
child_there t p i c x e h l d q =
    q ∙ ap (λ (y : Entry). y.child) (d ∙ sym (used_entry x i l)) ∙ ap (λ (y : Page). (get_or (in_use y) i zero_entry).child) (page_lying t p x h)

pub child_past : (t : List ℕ) (p i : ℕ) (x : Page) → slice_get (pages_of t) p ≡ Some x → length (in_use x) ≤ i → 0 ≡ (get_or (in_use (page (pages_of t) p)) i zero_entry).child
child_past t p i x h l =
    ap (λ (y : Entry). y.child) (sym (get_or-eq_default (in_use x) zero_entry {n = i} l)) ∙ ap (λ (y : Page). (get_or (in_use y) i zero_entry).child) (page_lying t p x h)

pub child_out : (t : List ℕ) (p i : ℕ) → slice_get (pages_of t) p ≡ None → 0 ≡ (get_or (in_use (page (pages_of t) p)) i zero_entry).child
child_out t p i h =
    ap (λ (y : Entry). y.child) (sym (get_or-eq_default (in_use free_page) zero_entry {n = i} (omega arith))) ∙ ap (λ (y : Page). (get_or (in_use y) i zero_entry).child) (page_lacking t p h)

pub put_in : (t u : List ℕ) (p n i : ℕ) (e : Entry) → table_fits t ≡ true → p < pages_in t → u ≡ put_page t p (with_entry (page_at t p) n i e) → Leaves t u (set (pages_of t) p (with_entry (page (pages_of t) p) n i e))
put_in t u p n i e f h d =
    let k = pages_at t p h in
    let l = store_in t u p (with_entry (page_at t p) n i e) f h (length-set (page_at t p).entries i e ∙ page_eight t p) d in
    record { same_length = l.same_length; pages_are = l.pages_are ∙ ap (λ (y : Page). set (pages_of t) p (with_entry y n i e)) (sym k) }

-- one entry in use is a count of one
pub one_used : (t : List ℕ) (p n : ℕ) → UsedAt t p n → eqb n 1 ≡ eqb (page (pages_of t) p).count 1
one_used t p n u =
    let x = page (pages_of t) p in
    let l = length-take x.count x.entries in
    let k : length x.entries ≡ page_entries = ⊎_elim (λ (h : p < pages_in t). ap (λ (y : Page). length y.entries) (pages_at t p h) ∙ page_eight t p) (λ (h : pages_in t ≤ p). ap (λ (y : Page). length y.entries) (get_or-eq_default (pages_of t) free_page {n = p} (omega (arith, pages_length t)))) (below_or_not p (pages_in t)) in
    same_test (eqb n 1) (eqb x.count 1)
    (λ e. let z = eqb-true n 1 e in eq-eqb x.count 1 (omega (arith, u.is, l, k)))
    (λ e. let z = eqb-true x.count 1 e in eq-eqb n 1 (omega (arith, u.is, l, k)))
