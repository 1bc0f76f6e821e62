-- The image, there and back: what is saved is loaded, and what is loaded is saved as it was. Its length tells its pages.
use Rattle.std.specs.Prelude.{Some, None, Bool, true, false, ◌&&◌, ◌≡◌, refl, List, ◌++◌, ℕ, ◌+◌, ◌*◌, ◌-◌, ◌/◌, ◌≤◌, ◌<◌, leb, eqb, length, take, drop}
use Rattle.std.proofs.Common.{sym, ap, ◌∙◌, arith, eqb-true, leb-true, eq-eqb, le-leb, length-append, length-take, length-drop, take-append-drop, take_at, drop_at}
use Rattle.ground.specs.Tests.{three, joint_three}
use Rattle.image.specs.Bytes.{word_bytes}
use Rattle.image.specs.ByteLaws.{Below, below_take, below_drop, length_word_bytes, length_byte_words, byte_words_word_bytes, word_bytes_byte_words}
use Rattle.pages.specs.Layout.{page_words, most_pages, pages_in}
use Rattle.std.specs.Bool.{then_some}
use Rattle.image.specs.Image.{page_bytes, trailer_length, image_length, image_of, image_pages, pages_back, small_of, table_of, trailer_bytes, trailer_for, trailer_good, trailer_in, trailer_of}
use Rattle.image.specs.TrailerLaws.{Fitting, good, good_so, length_trailer_bytes, trailer_bytes_trailer_in, trailer_in_trailer_bytes}
use Rattle.image.specs.declared.trailer.Trailer.{Trailer}
use Rattle.pages.specs.declared.Small.{Small}

-- a length and the pages that it tells
pub record Sized (n pages : ℕ) : Type 0 where
  pub length : n ≡ image_length pages
  pub least : 1 ≤ pages
  pub most : pages ≤ most_pages

pub pages_of_length : (n pages : ℕ) → Sized n pages → image_pages n ≡ Some pages
unfolding image_pages
pages_of_length n pages h =
    let same : n / page_bytes ≡ pages = omega arith in
    let fits : eqb n (image_length pages) && leb 1 pages && leb pages most_pages ≡ true =
    joint_three (eqb n (image_length pages)) (leb 1 pages) (leb pages most_pages) (eq-eqb n (image_length pages) h.length) (le-leb 1 pages h.least) (le-leb pages most_pages h.most) in
    rw (same, fits)

pub length_of_pages : (n pages : ℕ) → image_pages n ≡ Some pages → Sized n pages
unfolding image_pages
length_of_pages n pages e = by_test (eqb n (image_length (n / page_bytes)) && leb 1 (n / page_bytes) && leb (n / page_bytes) most_pages) refl e
  where
    by_test : (t : Bool) → eqb n (image_length (n / page_bytes)) && leb 1 (n / page_bytes) && leb (n / page_bytes) most_pages ≡ t → then_some t (n / page_bytes) ≡ Some pages → Sized n pages
    by_test true f g =
        let same : n / page_bytes ≡ pages = cc in
        let h = three (eqb n (image_length (n / page_bytes))) (leb 1 (n / page_bytes)) (leb (n / page_bytes) most_pages) f in
        let told = eqb-true n (image_length (n / page_bytes)) h.0 in
        let low = leb-true 1 (n / page_bytes) h.1 in
        let high = leb-true (n / page_bytes) most_pages h.2 in
        record { length = omega arith; least = omega arith; most = omega arith }
    by_test false f g = let z : ◌≡◌ {A = ℕ} 0 1 = cc in absurd (omega arith)

pub no_pages : (n pages : ℕ) → image_pages n ≡ None → Sized n pages → ⊥
no_pages n pages e h = let z : ◌≡◌ {A = ℕ} 0 1 = cc (pages_of_length n pages h) in omega arith

pub length_image_of : (form : ℕ) (table : List ℕ) (small : Small) → length (image_of form table small) ≡ 2 * length table + trailer_length
unfolding image_of
length_image_of form table small =
    let trailer : Trailer = trailer_for form (pages_in table) small in
    omega (arith, length-append (word_bytes table) (trailer_bytes trailer), length_word_bytes table, length_trailer_bytes trailer)

pub image_length_lem : (form pages : ℕ) (table : List ℕ) (small : Small) → length table ≡ page_words * pages → length (image_of form table small) ≡ image_length pages
image_length_lem form pages table small e = omega (arith, length_image_of form table small)

pub table_length : (pages : ℕ) (image : List ℕ) → length image ≡ image_length pages → length (table_of image) ≡ page_words * pages
unfolding table_of
table_length pages image e = length_byte_words (page_words * pages) (take (length image - trailer_length) image) (omega (arith, length-take (length image - trailer_length) image))

-- a book whose root is a page and whose numbers have room in the trailer
pub record Savable (pages : ℕ) (small : Small) : Type 0 where
  pub most : pages ≤ most_pages
  pub root : small.root < pages
  pub height : small.height < 65_536
  pub accepted : small.accepted < 4_294_967_296
  pub struck : small.struck < 4_294_967_296
  pub covered : small.covered < 4_294_967_296

-- such a book's trailer fits, is good, and holds its small record
saved_fits : (form pages : ℕ) (small : Small) → form < 65_536 → Savable pages small → Fitting (trailer_for form pages small)
unfolding trailer_for
saved_fits form pages small f h = omega arith

saved_back : (form pages : ℕ) (small : Small) → pages_back (trailer_for form pages small) ≡ pages - small.root
unfolding trailer_for
saved_back form pages small = omega arith

pub saved_good : (form pages : ℕ) (small : Small) → Savable pages small → trailer_good form pages (trailer_for form pages small) ≡ true
unfolding trailer_for
saved_good form pages small h =
    let back = saved_back form pages small in
    good_so form pages (trailer_for form pages small)
    (record { same_form = refl; same_pages = refl; distance = omega arith; least = omega arith; most = omega arith })

pub saved_small : (form pages : ℕ) (small : Small) → Savable pages small → small_of (trailer_for form pages small) ≡ small
unfolding small_of trailer_for
saved_small form pages small h i =
    let back = saved_back form pages small in
    let root : pages - pages_back (trailer_for form pages small) ≡ small.root = omega arith in
    record { root = root i; height = small.height; accepted = small.accepted; struck = small.struck; covered = small.covered }

-- loading what was saved: the table
pub loaded_table : (form : ℕ) (table : List ℕ) (small : Small) → Below 65_536 table → table_of (image_of form table small) ≡ table
unfolding table_of image_of
loaded_table form table small h =
    let trailer : List ℕ = trailer_bytes (trailer_for form (pages_in table) small) in
    let words : List ℕ = word_bytes table in
    let long : length words ≡ length (words ++ trailer) - trailer_length = omega (arith, length-append words trailer, length_trailer_bytes (trailer_for form (pages_in table) small)) in
    rw (take_at words trailer (length (words ++ trailer) - trailer_length) long) (byte_words_word_bytes table h)

-- its trailer
pub loaded_trailer :
    (form pages : ℕ) (table : List ℕ) (small : Small) → form < 65_536 → length table ≡ page_words * pages → Savable pages small
    → trailer_of (image_of form table small) ≡ trailer_for form pages small
unfolding trailer_of image_of
loaded_trailer form pages table small f e h =
    let trailer : List ℕ = trailer_bytes (trailer_for form (pages_in table) small) in
    let words : List ℕ = word_bytes table in
    let long : length words ≡ length (words ++ trailer) - trailer_length = omega (arith, length-append words trailer, length_trailer_bytes (trailer_for form (pages_in table) small)) in
    let same : pages_in table ≡ pages = omega arith in
    ap trailer_in (drop_at words trailer (length (words ++ trailer) - trailer_length) long)
    ∙ ap (λ (p : ℕ). trailer_in (trailer_bytes (trailer_for form p small))) same
    ∙ trailer_in_trailer_bytes (trailer_for form pages small) (saved_fits form pages small f h)

pub loaded_good :
    (form pages : ℕ) (table : List ℕ) (small : Small) → form < 65_536 → length table ≡ page_words * pages → Savable pages small
    → trailer_good form pages (trailer_of (image_of form table small)) ≡ true
loaded_good form pages table small f e h = rw (loaded_trailer form pages table small f e h) (saved_good form pages small h)

-- and the small record
pub loaded_small :
    (form pages : ℕ) (table : List ℕ) (small : Small) → form < 65_536 → length table ≡ page_words * pages → Savable pages small
    → small_of (trailer_of (image_of form table small)) ≡ small
loaded_small form pages table small f e h = ap small_of (loaded_trailer form pages table small f e h) ∙ saved_small form pages small h

-- what a good trailer holds makes that trailer again
pub again_trailer : (form pages : ℕ) (t : Trailer) → trailer_good form pages t ≡ true → trailer_for form pages (small_of t) ≡ t
unfolding trailer_for small_of
again_trailer form pages t e i =
    let h = good form pages t e in
    let back : page_bytes * (pages - (t.pages - pages_back t)) ≡ t.distance = omega arith in
    record {
      distance = back i;
      pages = sym h.same_pages i;
      height = t.height;
      accepted = t.accepted;
      struck = t.struck;
      covered = t.covered;
      form = sym h.same_form i;
    }

-- the root that a good trailer tells is a page
pub loaded_root : (form pages : ℕ) (t : Trailer) → trailer_good form pages t ≡ true → (small_of t).root < pages
unfolding small_of
loaded_root form pages t e = let h = good form pages t e in omega arith

-- the two parts of an image are its bytes
parts_again : (pages : ℕ) (image : List ℕ) → length image ≡ image_length pages → Below 256 image → word_bytes (table_of image) ++ trailer_bytes (trailer_of image) ≡ image
unfolding table_of trailer_of
parts_again pages image e h =
    let at : ℕ = length image - trailer_length in
    let words = word_bytes_byte_words (page_words * pages) (take at image) (omega (arith, length-take at image)) (below_take 256 at image h) in
    let trailer = trailer_bytes_trailer_in (drop at image) (omega (arith, length-drop at image)) (below_drop 256 at image h) in
    rw (words, trailer) (take-append-drop at image)

-- saving what was loaded from an image with a good trailer gives the same bytes
pub saved_again :
    (form pages : ℕ) (image : List ℕ) → length image ≡ image_length pages → Below 256 image → trailer_good form pages (trailer_of image) ≡ true
    → image_of form (table_of image) (small_of (trailer_of image)) ≡ image
unfolding image_of
saved_again form pages image e h g =
    let same : pages_in (table_of image) ≡ pages = omega (arith, table_length pages image e) in
    ap (λ (p : ℕ). word_bytes (table_of image) ++ trailer_bytes (trailer_for form p (small_of (trailer_of image)))) same
    ∙ ap (λ (t : Trailer). word_bytes (table_of image) ++ trailer_bytes t) (again_trailer form pages (trailer_of image) g)
    ∙ parts_again pages image e h
