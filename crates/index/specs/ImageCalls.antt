-- Saving and loading as calls: a book saved and loaded comes back the same, and an image that loads is saved as the same bytes.
use Rattle.std.specs.Prelude.{Some, ℕ, ◌+◌, ◌*◌, ◌<◌, ◌≤◌, Bool, true, false, not, cond, List, ◌≡◌, refl, leb, ltb, eqb, length}
use Rattle.std.proofs.Common.{sym, ap, ap₂, ◌∙◌, arith, eqb-true, leb-true, ltb-true, eq-eqb}
use Rattle.std.proofs.lemmas.Bool.{eqb-false}
use Rattle.ground.specs.Tests.{both, three}
use Rattle.image.specs.ByteLaws.{Below}
use Rattle.image.specs.Image.{image_form, image_length, image_of, image_pages, trailer_of, trailer_good, small_of, table_of as image_table}
use Rattle.image.specs.ImageLaws.{Sized, pages_of_length, length_of_pages, image_length_lem, table_length, Savable, loaded_table, loaded_good, loaded_small, saved_again}
use Rattle.image.specs.TrailerLaws.{first_form}
use Rattle.pages.specs.Facts.{fitting}
use Rattle.pages.specs.Layout.{most_pages, page_words, pages_in, table_fits, pages_of}
use Rattle.pages.specs.LayoutLaws.{pages_length, pages_at, level_in}
use Rattle.pages.specs.declared.Page.{Page}
use Rattle.pages.specs.declared.Small.{Small}
use Rattle.wellformed.specs.Parts.{parts}
use Rattle.wellformed.specs.WellFormed.{page, held_records, well_formed, most_accepted, root_stands, counts_stand}
use Rattle.recording.specs.RefusalSteps.{sound_small}
use Rattle.rules.specs.Record.{first_of}
use Rattle.index.specs.CallLaws.{passed}
use Rattle.index.specs.Calls.{Left, Saved, unchanged, empty_book, save_refusal, saved, image_refusal, pages_refusal, image_small, loaded_pages, loaded}

-- a well-formed book of 16-bit words has room in the trailer
savable : (t : List ℕ) (s : Small) → well_formed t s ≡ true → Below 65_536 t → Savable (pages_in t) s
unfolding root_stands
savable t s w words =
    let p = parts t s w in
    let r = three (ltb s.root (length (pages_of t))) (eqb (page (pages_of t) s.root).level s.height) (leb 1 s.height) p.root in
    let b = sound_small t s w in
    let root : s.root < pages_in t = omega (arith, ltb-true s.root (length (pages_of t)) r.0, pages_length t) in
    let height = eqb-true (page (pages_of t) s.root).level s.height r.1 in
    let level = ap (λ (x : Page). x.level) (pages_at t s.root root) ∙ level_in t s.root in
    record {
      most = (fitting t p.fits).most;
      root = root;
      height = omega (arith, height, level, words (s.root * page_words));
      accepted = omega (arith, b.accepted);
      struck = omega (arith, b.struck);
      covered = omega (arith, b.covered);
    }

-- an image of so many pages, for a table of as many, with a good trailer
not_refused : (image t : List ℕ) (p : ℕ) → image_pages (length image) ≡ Some p → length t ≡ page_words * p → trailer_good image_form p (trailer_of image) ≡ true → image_refusal image t ≡ 0
unfolding image_refusal
not_refused image t p e l g = rw (e, eq-eqb (length t) (page_words * p) l, g)

-- an image of form 1, of the right length and for a table of as many pages, is refused by 8
pub first_form_refused : (image t : List ℕ) (p : ℕ) → image_pages (length image) ≡ Some p → length t ≡ page_words * p → (trailer_of image).form ≡ 1 → image_refusal image t ≡ 8
unfolding image_refusal
first_form_refused image t p e l f = rw (e, eq-eqb (length t) (page_words * p) l, first_form p (trailer_of image) f)

image_comes_back : (t u : List ℕ) (s r : Small) → well_formed t s ≡ true → Below 65_536 t → length u ≡ length t → loaded (image_of image_form t s) u r ≡ unchanged 0 t s
unfolding loaded
image_comes_back t u s r w words l =
    let p = pages_in t in
    let k = savable t s w words in
    let f = fitting t (parts t s w).fits in
    let long : length t ≡ page_words * p = omega arith in
    let size = pages_of_length (length (image_of image_form t s)) p (record { length = image_length_lem image_form p t s long; least = f.some; most = f.most }) in
    let good = loaded_good image_form p t s (omega arith) long k in
    let table = loaded_table image_form t s words in
    let small = loaded_small image_form p t s (omega arith) long k in
    let n = not_refused (image_of image_form t s) u p size (omega arith) good in
    rw (n, table, small, w)

-- a save that is not refused was of a well-formed book, and left its image in the buffer
saves : (t out : List ℕ) (s : Small) → (saved t s out).refusal ≡ 0 → (well_formed t s ≡ true) × ((saved t s out).buffer ≡ image_of image_form t s)
unfolding saved save_refusal
saves t out s e = (
  by_tests (table_fits t) (eqb (length out) (image_length (pages_in t))) (well_formed t s) e,
  ap (λ (b : Bool). cond b (image_of image_form t s) out) (eq-eqb (save_refusal t s out) 0 e),
)
  where
    by_tests : (a b c : Bool) → first_of (not a) 1 (first_of (not b) 7 (first_of (not c) 4 0)) ≡ 0 → c ≡ true
    by_tests true true true h = refl
    by_tests true true false h = absurd (omega arith)
    by_tests true false c h = absurd (omega arith)
    by_tests false b c h = absurd (omega arith)

-- What a save that is not refused left in the buffer, loaded into any table of the same length, whatever that and its small record held, is the book that was saved: every word and number. A table's words have 16 bits.
pub saved_comes_back : (t u out : List ℕ) (s r : Small) → Below 65_536 t → (saved t s out).refusal ≡ 0 → length u ≡ length t → loaded (saved t s out).buffer u r ≡ unchanged 0 t s
saved_comes_back t u out s r words e l =
    let k = saves t out s e in
    ap (λ (image : List ℕ). loaded image u r) k.1 ∙ image_comes_back t u s r k.0 words l

-- A well-formed book is never refused if the buffer has the image's length.
pub sound_saves : (t out : List ℕ) (s : Small) → well_formed t s ≡ true → length out ≡ image_length (pages_in t) → (saved t s out).refusal ≡ 0
unfolding saved save_refusal
sound_saves t out s w l = rw ((parts t s w).fits, eq-eqb (length out) (image_length (pages_in t)) l, w)

-- a load that is not refused left the image's book, which is well-formed
loads : (image t : List ℕ) (s : Small) → (loaded image t s).refusal ≡ 0 → (image_refusal image t ≡ 0) × (well_formed (image_table image) (image_small image) ≡ true) × (loaded image t s ≡ unchanged 0 (image_table image) (image_small image))
unfolding loaded
loads image t s e = by_test (eqb (image_refusal image t) 0) refl e
  where
    by_pages : (w : Bool) → well_formed (image_table image) (image_small image) ≡ w → (cond w (unchanged 0 (image_table image) (image_small image)) (empty_book 4 t)).refusal ≡ 0 → w ≡ true
    by_pages true f h = refl
    by_pages false f h = absurd (omega arith)

    by_test : (c : Bool) → eqb (image_refusal image t) 0 ≡ c → (cond c (loaded_pages image t) (unchanged (image_refusal image t) t s)).refusal ≡ 0
        → (image_refusal image t ≡ 0) × (well_formed (image_table image) (image_small image) ≡ true) × (cond c (loaded_pages image t) (unchanged (image_refusal image t) t s) ≡ unchanged 0 (image_table image) (image_small image))
    by_test true f h =
        let w = by_pages (well_formed (image_table image) (image_small image)) refl h in
        (eqb-true (image_refusal image t) 0 f, w, ap (λ (b : Bool). cond b (unchanged 0 (image_table image) (image_small image)) (empty_book 4 t)) w)
    by_test false f h = absurd (eqb-false (image_refusal image t) 0 f h)

pub saved_the_same : (image t out : List ℕ) (s : Small) → Below 256 image → (loaded image t s).refusal ≡ 0 → length out ≡ length image
    → saved (loaded image t s).table (loaded image t s).small out ≡ record { refusal = 0; buffer = image }
unfolding saved save_refusal
saved_the_same image t out s bytes e l =
    let k = loads image t s e in
    let x = passed image t k.0 in
    let size = (length_of_pages (length image) x.pages x.size).length in
    let w = k.1 in
    let f = (parts (image_table image) (image_small image) w).fits in
    let long : length out ≡ image_length (pages_in (image_table image)) = omega (arith, size, table_length x.pages image size) in
    let same = saved_again image_form x.pages image size bytes x.good in
    rw (k.2, f, eq-eqb (length out) (image_length (pages_in (image_table image))) long, w, same)
