-- RULES.md, section 6, and refusals 7 and 8. The form's number is a parameter throughout.
use Rattle.std.specs.Prelude.{Option, Bool, ◌&&◌, List, ◌++◌, ℕ, ◌+◌, ◌*◌, ◌-◌, ◌/◌, leb, eqb, length, take, drop}
use Rattle.std.specs.Bool.{then_some}
use Rattle.image.specs.Bytes.{bytes16, bytes32, number, word_bytes, byte_words}
use Rattle.image.specs.declared.trailer.Trailer.{Trailer}
use Rattle.pages.specs.Layout.{page_words, most_pages, pages_in}
use Rattle.pages.specs.declared.Small.{Small}

-- Rule 6.5: the form of the images that this book saves. In form 1 days had other numbers.
abbrev pub image_form : ℕ
image_form = 2

-- Rules 6.1, 6.2, 6.6: a page takes 340 bytes, two for each word, and the trailer 22.
abbrev pub page_bytes : ℕ
page_bytes = 2 * page_words

abbrev pub trailer_length : ℕ
trailer_length = 22

-- Rule 6.6: length is 340 × pages + 22.
abbrev pub image_length : ℕ → ℕ
image_length pages = page_bytes * pages + trailer_length

-- Rule 6.3: the trailer, distance, pages, height, accepted, struck, covered, form.
unfoldable pub trailer_bytes : Trailer → List ℕ
trailer_bytes t =
    bytes32 t.distance ++ bytes16 t.pages ++ bytes16 t.height ++ bytes32 t.accepted ++ bytes32 t.struck ++ bytes32 t.covered ++ bytes16 t.form

-- Rule 6.4: it points back, from its start, which is the end of the last page, to the start of the root page.
unfoldable pub trailer_for : ℕ → ℕ → Small → Trailer
trailer_for form pages small =
    record {
      distance = page_bytes * (pages - small.root);
      pages = pages;
      height = small.height;
      accepted = small.accepted;
      struck = small.struck;
      covered = small.covered;
      form = form;
    }

-- Rule 6.1: all pages in order, then the trailer. It is settled for every book: a number too great for its place keeps its low bytes.
unfoldable pub image_of : ℕ → List ℕ → Small → List ℕ
image_of form table small = word_bytes table ++ trailer_bytes (trailer_for form (pages_in table) small)

-- Rule 7.7: refusal 7 is given for an image whose length fits no P from 1 to 4,096.
unfoldable pub image_pages : ℕ → Option ℕ
image_pages n = then_some (eqb n (image_length (n / page_bytes)) && leb 1 (n / page_bytes) && leb (n / page_bytes) most_pages) (n / page_bytes)

-- Rules 6.1, 6.7: the table is all but the last 22 bytes.
unfoldable pub table_of : List ℕ → List ℕ
table_of image = byte_words (take (length image - trailer_length) image)

-- The number that n bytes are, from a place on.
abbrev pub field : ℕ → ℕ → List ℕ → ℕ
field n place bytes = number (take n (drop place bytes))

unfoldable pub trailer_in : List ℕ → Trailer
trailer_in bytes =
    record {
      distance = field 4 0 bytes;
      pages = field 2 4 bytes;
      height = field 2 6 bytes;
      accepted = field 4 8 bytes;
      struck = field 4 12 bytes;
      covered = field 4 16 bytes;
      form = field 2 20 bytes;
    }

-- Rule 6.1: the trailer is the last 22 bytes.
unfoldable pub trailer_of : List ℕ → Trailer
trailer_of image = trailer_in (drop (length image - trailer_length) image)

-- Rule 7.8: refusal 8 is given if the form is another, pages is not P, or distance is not 340 times a number from 1 to P. A trailer is good if it is not given.
abbrev pub pages_back : Trailer → ℕ
pages_back t = t.distance / page_bytes

unfoldable pub trailer_good : ℕ → ℕ → Trailer → Bool
trailer_good form pages t =
    eqb t.form form && eqb t.pages pages && (eqb t.distance (page_bytes * pages_back t) && leb 1 (pages_back t) && leb (pages_back t) pages)

-- Rule 6.7: the small record. The root lies so many pages before the end.
unfoldable pub small_of : Trailer → Small
small_of t =
    record {
      root = t.pages - pages_back t;
      height = t.height;
      accepted = t.accepted;
      struck = t.struck;
      covered = t.covered;
    }
