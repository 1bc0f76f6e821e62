-- The trailer as words and as bytes, there and back; what a good trailer says.
use Rattle.std.specs.Prelude.{true, false, ◌&&◌, ◌≡◌, refl, List, [], ◌∷◌, ◌++◌, ℕ, zero, suc, ◌+◌, ◌*◌, ◌/◌, ◌%◌, ◌≤◌, ◌<◌, leb, eqb, length, get_or, take, drop}
use Rattle.std.proofs.Common.{sym, ap, ◌∙◌, arith, eqb-true, leb-true, eq-eqb, ne_eqb, le-leb, length-drop, take-add, take_all, length-take-le}
use Rattle.std.proofs.Math.Nat.{add-mul-mod_self_left}
use Rattle.ground.specs.Tests.{three, joint_three}
use Rattle.image.specs.Bytes.{low_first, bytes16, bytes32, number, word_bytes, byte_words}
use Rattle.image.specs.ByteLaws.{Below, below_take, below_drop, number_low_first, low_first_number, word_bytes_append}
use Rattle.image.specs.Image.{image_form, page_bytes, trailer_length, trailer_bytes, trailer_in, trailer_good, field, pages_back}
use Rattle.image.specs.declared.trailer.Trailer.{Trailer}

-- a number of 16 bits is one word, and one of 32 bits two, the low one first
pub own_word : (x : ℕ) → bytes16 x ≡ word_bytes (x ∷ [])
unfolding low_first word_bytes
own_word x = refl

pub one_word : (x : ℕ) → bytes16 x ≡ word_bytes (x % 65_536 ∷ [])
unfolding low_first word_bytes
one_word x =
    let low : x % 65_536 % 256 ≡ x % 256 = omega arith in
    let split : x / 256 ≡ x % 65_536 / 256 + 256 * (x / 65_536) = omega arith in
    rw (low, split, add-mul-mod_self_left (x % 65_536 / 256) 256 (x / 65_536))

two_halves : (x : ℕ) → bytes32 x ≡ bytes16 x ++ bytes16 (x / 65_536)
unfolding low_first
two_halves x = let upper : x / 256 / 256 ≡ x / 65_536 = omega arith in rw upper

pub two_words : (x : ℕ) → bytes32 x ≡ word_bytes (x % 65_536 ∷ x / 65_536 % 65_536 ∷ [])
two_words x =
    two_halves x ∙ rw (one_word x, one_word (x / 65_536), ← word_bytes_append)

pub trailer_words :
    (t : Trailer) → word_bytes
    (t.distance % 65_536
    ∷ t.distance / 65_536 % 65_536
    ∷ t.pages % 65_536
    ∷ t.height % 65_536
    ∷ t.accepted % 65_536
    ∷ t.accepted / 65_536 % 65_536
    ∷ t.struck % 65_536
    ∷ t.struck / 65_536 % 65_536
    ∷ t.covered % 65_536
    ∷ t.covered / 65_536 % 65_536
    ∷ t.form
    ∷ [])
    ≡ trailer_bytes t
unfolding trailer_bytes
trailer_words t =
    rw (
      two_words t.distance,
      one_word t.pages,
      one_word t.height,
      two_words t.accepted,
      two_words t.struck,
      two_words t.covered,
      own_word t.form,
      ← word_bytes_append,
      ← word_bytes_append,
      ← word_bytes_append,
      ← word_bytes_append,
      ← word_bytes_append,
      ← word_bytes_append,
    )

-- what stands at a place, by words
pub word_at : (k : ℕ) (bs : List ℕ) → 2 * k + 2 ≤ length bs → field 2 (2 * k) bs ≡ get_or (byte_words bs) k 0
unfolding byte_words
word_at k [] h = absurd (omega arith)
word_at k (a ∷ []) h = absurd (omega arith)
word_at zero (a ∷ b ∷ bs) h = refl
word_at (suc k) (a ∷ b ∷ bs) h =
    let twice : 2 * suc k ≡ suc (suc (2 * k)) = omega arith in
    rw twice (word_at k bs (omega arith))

pub long_at :
    (k : ℕ) (bs : List ℕ) → 2 * k + 4 ≤ length bs
    → field 4 (2 * k) bs ≡ get_or (byte_words bs) k 0 + 65_536 * get_or (byte_words bs) (suc k) 0
unfolding byte_words number
long_at k [] h = absurd (omega arith)
long_at k (a ∷ []) h = absurd (omega arith)
long_at zero (a ∷ b ∷ []) h = absurd (omega arith)
long_at zero (a ∷ b ∷ c ∷ []) h = absurd (omega arith)
long_at zero (a ∷ b ∷ c ∷ d ∷ bs) h = omega arith
long_at (suc k) (a ∷ b ∷ bs) h =
    let twice : 2 * suc k ≡ suc (suc (2 * k)) = omega arith in
    rw twice (long_at k bs (omega arith))

-- so the trailer is read off eleven words
pub trailer_read :
    (bs : List ℕ) → length bs ≡ trailer_length
    → trailer_in bs
    ≡ record {
      distance = get_or (byte_words bs) 0 0 + 65_536 * get_or (byte_words bs) 1 0;
      pages = get_or (byte_words bs) 2 0;
      height = get_or (byte_words bs) 3 0;
      accepted = get_or (byte_words bs) 4 0 + 65_536 * get_or (byte_words bs) 5 0;
      struck = get_or (byte_words bs) 6 0 + 65_536 * get_or (byte_words bs) 7 0;
      covered = get_or (byte_words bs) 8 0 + 65_536 * get_or (byte_words bs) 9 0;
      form = get_or (byte_words bs) 10 0;
    }
unfolding trailer_in
trailer_read bs e i =
    record {
      distance = long_at 0 bs (omega arith) i;
      pages = word_at 2 bs (omega arith) i;
      height = word_at 3 bs (omega arith) i;
      accepted = long_at 4 bs (omega arith) i;
      struck = long_at 6 bs (omega arith) i;
      covered = long_at 8 bs (omega arith) i;
      form = word_at 10 bs (omega arith) i;
    }

-- every number in its place
pub record Fitting (t : Trailer) : Type 0 where
  pub distance : t.distance < 4_294_967_296
  pub pages : t.pages < 65_536
  pub height : t.height < 65_536
  pub accepted : t.accepted < 4_294_967_296
  pub struck : t.struck < 4_294_967_296
  pub covered : t.covered < 4_294_967_296
  pub form : t.form < 65_536

pub length_trailer_bytes : (t : Trailer) → length (trailer_bytes t) ≡ trailer_length
unfolding trailer_bytes low_first
length_trailer_bytes t = refl

-- a trailer that fits is the one that its bytes hold
pub trailer_in_trailer_bytes : (t : Trailer) → Fitting t → trailer_in (trailer_bytes t) ≡ t
unfolding trailer_in trailer_bytes low_first
trailer_in_trailer_bytes t h i =
    record {
      distance = number_low_first 4 t.distance h.distance i;
      pages = number_low_first 2 t.pages h.pages i;
      height = number_low_first 2 t.height h.height i;
      accepted = number_low_first 4 t.accepted h.accepted i;
      struck = number_low_first 4 t.struck h.struck i;
      covered = number_low_first 4 t.covered h.covered i;
      form = number_low_first 2 t.form h.form i;
    }

-- the bytes of what stands at a place are those that stand there
field_bytes : (n place : ℕ) (bs : List ℕ) → Below 256 bs → place + n ≤ length bs → low_first n (field n place bs) ≡ take n (drop place bs)
field_bytes n place bs h l =
    let part : List ℕ = take n (drop place bs) in
    let long : length part ≡ n = length-take-le n (drop place bs) (omega (arith, length-drop place bs)) in
    ap (λ (m : ℕ). low_first m (number part)) (sym long) ∙ low_first_number part (below_take 256 n (drop place bs) (below_drop 256 place bs h))

-- and bytes are those of the trailer that they hold
pub trailer_bytes_trailer_in : (bs : List ℕ) → length bs ≡ trailer_length → Below 256 bs → trailer_bytes (trailer_in bs) ≡ bs
unfolding trailer_bytes trailer_in
trailer_bytes_trailer_in bs e h =
    rw (
      field_bytes 4 0 bs h (omega arith),
      field_bytes 2 4 bs h (omega arith),
      field_bytes 2 6 bs h (omega arith),
      field_bytes 4 8 bs h (omega arith),
      field_bytes 4 12 bs h (omega arith),
      field_bytes 4 16 bs h (omega arith),
      field_bytes 2 20 bs h (omega arith),
      ← (take-add 4 2 bs),
      ← (take-add 6 2 bs),
      ← (take-add 8 4 bs),
      ← (take-add 12 4 bs),
      ← (take-add 16 4 bs),
      ← (take-add 20 2 bs),
    ) (take_all trailer_length bs (omega arith))

-- a good trailer, as facts on numbers
pub record Good (form pages : ℕ) (t : Trailer) : Type 0 where
  pub same_form : t.form ≡ form
  pub same_pages : t.pages ≡ pages
  pub distance : t.distance ≡ page_bytes * pages_back t
  pub least : 1 ≤ pages_back t
  pub most : pages_back t ≤ pages

pub good : (form pages : ℕ) (t : Trailer) → trailer_good form pages t ≡ true → Good form pages t
unfolding trailer_good
good form pages t e =
    let back = pages_back t in
    let h = three (eqb t.form form) (eqb t.pages pages) (eqb t.distance (page_bytes * back) && leb 1 back && leb back pages) e in
    let k = three (eqb t.distance (page_bytes * back)) (leb 1 back) (leb back pages) h.2 in
    record {
      same_form = eqb-true t.form form h.0;
      same_pages = eqb-true t.pages pages h.1;
      distance = eqb-true t.distance (page_bytes * back) k.0;
      least = leb-true 1 back k.1;
      most = leb-true back pages k.2;
    }

pub good_so : (form pages : ℕ) (t : Trailer) → Good form pages t → trailer_good form pages t ≡ true
unfolding trailer_good
good_so form pages t h =
    let back = pages_back t in
    joint_three (eqb t.form form) (eqb t.pages pages) (eqb t.distance (page_bytes * back) && leb 1 back && leb back pages)
    (eq-eqb t.form form h.same_form)
    (eq-eqb t.pages pages h.same_pages)
    (joint_three (eqb t.distance (page_bytes * back)) (leb 1 back) (leb back pages)
    (eq-eqb t.distance (page_bytes * back) h.distance)
    (le-leb 1 back h.least)
    (le-leb back pages h.most))

-- a trailer of another form is not good; so none of form 1 is
pub other_form : (form pages : ℕ) (t : Trailer) → (t.form ≡ form → ⊥) → trailer_good form pages t ≡ false
unfolding trailer_good
other_form form pages t h = rw (ne_eqb t.form form h)

pub first_form : (pages : ℕ) (t : Trailer) → t.form ≡ 1 → trailer_good image_form pages t ≡ false
first_form pages t e = other_form image_form pages t (λ h. omega arith)

-- the distance is 340 times a number from 1 to P exactly if it is so with the number that dividing gives
pub some_pages_back : (t : Trailer) (k : ℕ) → t.distance ≡ page_bytes * k → pages_back t ≡ k
some_pages_back t k e = omega arith
