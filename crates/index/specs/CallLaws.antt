-- The calls in the code's order.
use Rattle.std.specs.Prelude.{Some, None, Option, Ok, Err, Result, ℕ, ◌+◌, ◌*◌, ◌-◌, ◌≤◌, Bool, not, cond, List, ◌↔◌, ◌≡◌, leb, eqb, replicate, take}
use Rattle.std.specs.Option.{ok_or}
use Rattle.std.proofs.Math.Bool.{true, false}
use Rattle.std.proofs.Math.Path.{refl, sym, ap, ap₂}
use Rattle.std.proofs.Common.{◌∙◌, arith, length-take}
use borrow.Author.Tests.{not-true, not-false, eq-eqb, ne_eqb, eqb-true}
use Rattle.std.proofs.Math.ListN.{length, set}
use Rattle.ground.specs.Tests.{both}
use Rattle.ground.specs.Refusals.{number, number_of, number_tells}
use Rattle.image.specs.Image.{trailer_length, image_form, image_length, image_of, image_pages, trailer_of, trailer_good, small_of, table_of as image_table}
use Rattle.image.specs.ByteLaws.{length_byte_words}
use Rattle.image.specs.ImageLaws.{length_of_pages}
use Rattle.image.specs.declared.trailer.Trailer.{Trailer}
use Rattle.pages.specs.Facts.{fitting}
use Rattle.pages.specs.Free.{empty_table, empty_small}
use Rattle.pages.specs.Layout.{page_words, pages_in, table_fits, pages_of}
use Rattle.pages.specs.declared.Small.{Small}
use Rattle.wellformed.specs.Parts.{parts}
use Rattle.wellformed.specs.WellFormed.{held_records, most_accepted, counts_stand, well_formed, checked}
use Rattle.ground.specs.declared.refusals.Refusal.{Refusal}
use Rattle.ground.specs.declared.refusals.Refusal.TheVariants as no
use Rattle.rules.specs.Record.{first_of}
use Rattle.wellformed.specs.VerdictLaws.{well_held, well_damaged, well_count}
use Rattle.index.specs.declared.Counts.{Counts}
use Rattle.index.specs.Calls.{Left, Saved, unchanged, empty_book, cleared, CountSaid.NotCounted, CountSaid.Numbers, numbers_of, count_answer, count_says, counts_of, counted, save_refusal, saved, image_refusal, pages_refusal, image_small, loaded_pages, loaded}

-- what the check says of a book that is not well-formed
says_damaged : (t : List ℕ) (s : Small) (k : Result ℕ Refusal) (e : Refusal) → k ≡ checked t s → k ≡ Err e → (k ≡ Err no.Damaged) × (e ≡ no.Damaged)
unfolding checked
says_damaged t s k e f g = by_verdict (well_formed t s) (sym g ∙ f)
  where
    by_verdict : (w : Bool) → Err e ≡ cond w (Ok (length (held_records (pages_of t) s))) (Err no.Damaged) → (k ≡ Err no.Damaged) × (e ≡ no.Damaged)
    by_verdict true h = let z : ◌≡◌ {A = ℕ} 0 1 = cc in absurd (omega arith)
    by_verdict false h = (g ∙ h, cc)

-- What a call leaves, by the code's answer.
abbrev pub left_of : List ℕ → Small → Result Unit Refusal → Left
left_of t s r = record { refusal = number_of r; table = t; small = s }

module _ (t : List ℕ) (s : Small) (b : Bool) (e : b ≡ table_fits t) where
  pub clear_refused : b ≡ false → unchanged 1 t s ≡ cleared t s
  unfolding cleared
  clear_refused h = rw (sym e ∙ h)

  pub clear_done : (u : List ℕ) (r : Small) → b ≡ true → u ≡ empty_table t → r ≡ empty_small → record { refusal = 0; table = u; small = r } ≡ cleared t s
  unfolding cleared
  clear_done u r h f g = rw (sym e ∙ h) (λ i. record { refusal = 0; table = f i; small = g i })

  pub count_unfit : b ≡ false → NotCounted 1 ≡ count_answer t s
  count_unfit h = rw (sym e ∙ h)

  pub count_damaged : (k : Result ℕ Refusal) (r : Refusal) → b ≡ true → k ≡ checked t s → k ≡ Err r → NotCounted (number r) ≡ count_answer t s
  count_damaged k r h f g = let d = says_damaged t s k r f g in rw (d.1, sym e ∙ h, sym (well_damaged t s k f d.0))

  pub count_held : (k : Result ℕ Refusal) (n : ℕ) → b ≡ true → k ≡ checked t s → k ≡ Ok n → Numbers s.accepted n s.struck s.covered ≡ count_answer t s
  count_held k n h f g = rw (sym e ∙ h, sym (well_held t s k f n g)) (ap (λ m. Numbers s.accepted m s.struck s.covered) (well_count t s k f n g))

  pub save_unfit : (out : List ℕ) → b ≡ false → record { refusal = 1; buffer = out } ≡ saved t s out
  unfolding saved save_refusal
  save_unfit out h = rw (sym e ∙ h)

  -- the buffer's length, as the code reckons it
  image_long : (out : List ℕ) → b ≡ true → (length out ≡ 2 * length t + trailer_length) ↔ (length out ≡ image_length (pages_in t))
  image_long out h = let f = fitting t (sym e ∙ h) in (λ x. omega arith, λ x. omega arith)

  pub save_wrong_size : (out : List ℕ) → b ≡ true → (length out ≡ 2 * length t + trailer_length → ⊥) → record { refusal = 7; buffer = out } ≡ saved t s out
  unfolding saved save_refusal
  save_wrong_size out h d = rw (sym e ∙ h, ne_eqb (length out) (image_length (pages_in t)) (λ x. d ((image_long out h).1 x)))

  pub save_damaged : (out : List ℕ) (k : Result ℕ Refusal) (r : Refusal) → b ≡ true → length out ≡ 2 * length t + trailer_length → k ≡ checked t s → k ≡ Err r → record { refusal = number r; buffer = out } ≡ saved t s out
  unfolding saved save_refusal
  save_damaged out k r h l f g =
      let d = says_damaged t s k r f g in
      rw (d.1, sym e ∙ h, eq-eqb (length out) (image_length (pages_in t)) ((image_long out h).0 l), sym (well_damaged t s k f d.0))

  pub save_done : (out now : List ℕ) (k : Result ℕ Refusal) (n : ℕ) → b ≡ true → length out ≡ 2 * length t + trailer_length → k ≡ checked t s → k ≡ Ok n → now ≡ image_of image_form t s → record { refusal = 0; buffer = now } ≡ saved t s out
  unfolding saved save_refusal
  save_done out now k n h l f g q =
      rw (sym e ∙ h, eq-eqb (length out) (image_length (pages_in t)) ((image_long out h).0 l), sym (well_held t s k f n g)) (λ i. record { refusal = 0; buffer = q i })

-- an image whose length tells its pages has a trailer
pub image_words : (n p : ℕ) (k : Option ℕ) → k ≡ image_pages n → k ≡ Some p → trailer_length ≤ n
image_words n p k e f = let h = length_of_pages n p (sym e ∙ f) in omega (arith, h.length)

module _ (image t : List ℕ) (k : Option ℕ) (e : k ≡ image_pages (length image)) where
  by_pages : (n : ℕ) → n ≡ pages_refusal image t k → n ≡ image_refusal image t
  unfolding image_refusal
  by_pages n h = h ∙ ap (pages_refusal image t) e

  pub refused_7 : (x : Refusal) → k ≡ None → Err x ≡ ok_or k no.Size → number x ≡ image_refusal image t
  refused_7 x f g = let h : ◌≡◌ {A = Result ℕ Refusal} (Err x) (Err no.Size) = g ∙ ap (λ y. ok_or y no.Size) f in let z : x ≡ no.Size = cc in rw z (by_pages 7 (ap (pages_refusal image t) (sym f)))

  module _ (p : ℕ) (f : k ≡ Some p) where
    pub image_fits : length t ≡ page_words * p → length image ≡ 2 * length t + trailer_length
    image_fits l = let h = length_of_pages (length image) p (sym e ∙ f) in omega (arith, h.length)

    pub refused_1 : (length t ≡ page_words * p → ⊥) → 1 ≡ image_refusal image t
    refused_1 d = by_pages 1 (rw (f, ne_eqb (length t) (page_words * p) d) refl)

    pub refused_8 : (x : Trailer) (c : Bool) → length t ≡ page_words * p → x ≡ trailer_of image → c ≡ trailer_good image_form p x → c ≡ false → 8 ≡ image_refusal image t
    refused_8 x c l g h n = by_pages 8 (rw (f, eq-eqb (length t) (page_words * p) l, sym g, sym h, n) refl)

    pub refused_none : (x : Trailer) (c : Bool) → length t ≡ page_words * p → x ≡ trailer_of image → c ≡ trailer_good image_form p x → c ≡ true → 0 ≡ image_refusal image t
    refused_none x c l g h n = by_pages 0 (rw (f, eq-eqb (length t) (page_words * p) l, sym g, sym h, n) refl)

-- what an image that is not refused before it is read is known by
pub record Passed (image t : List ℕ) : Type 0 where
  pub pages : ℕ
  pub size : image_pages (length image) ≡ Some pages
  pub fits : length t ≡ page_words * pages
  pub good : trailer_good image_form pages (trailer_of image) ≡ true

pub passed : (image t : List ℕ) → image_refusal image t ≡ 0 → Passed image t
unfolding image_refusal
passed image t e = by_pages (image_pages (length image)) refl e
  where
    by_tests : (c d : Bool) → first_of (not c) 1 (first_of (not d) 8 0) ≡ 0 → (c ≡ true) × (d ≡ true)
    by_tests true true h = (refl, refl)
    by_tests true false h = absurd (omega arith)
    by_tests false d h = absurd (omega arith)

    by_pages : (k : Option ℕ) → image_pages (length image) ≡ k → pages_refusal image t k ≡ 0 → Passed image t
    by_pages None f h = absurd (omega arith)
    by_pages (Some p) f h =
        let g = by_tests (eqb (length t) (page_words * p)) (trailer_good image_form p (trailer_of image)) h in
        record { pages = p; size = f; fits = eqb-true (length t) (page_words * p) g.0; good = g.1 }

-- it has the table's length
pub read_long : (image t : List ℕ) (n : ℕ) → n ≡ image_refusal image t → n ≡ 0 → length image ≡ 2 * length t + trailer_length
read_long image t n e z =
    let x = passed image t (sym e ∙ z) in
    image_fits image t (Some x.pages) (sym x.size) x.pages refl x.fits

read_table : (image t : List ℕ) → length image ≡ 2 * length t + trailer_length → length (image_table image) ≡ length t
unfolding image_table
read_table image t l = length_byte_words (length t) (take (length image - trailer_length) image) (omega (arith, length-take (length image - trailer_length) image))

module _ (image t : List ℕ) (s : Small) (m : ℕ) (e : m ≡ image_refusal image t) where
  pub load_refused : (m ≡ 0 → ⊥) → unchanged m t s ≡ loaded image t s
  unfolding loaded
  load_refused d = rw (sym e, ne_eqb m 0 d) refl

  module _ (z : m ≡ 0) (u : List ℕ) (x : Small) (k : Result ℕ Refusal) (read : u ≡ image_table image) (small : x ≡ image_small image) (f : k ≡ checked u x) where
    pub load_done : (n : ℕ) → k ≡ Ok n → unchanged 0 u x ≡ loaded image t s
    unfolding loaded
    load_done n g =
        let w : well_formed (image_table image) (image_small image) ≡ true = ap₂ well_formed (sym read) (sym small) ∙ sym (well_held u x k f n g) in
        rw (sym e, z, w) (λ i. record { refusal = 0; table = read i; small = small i })

    pub load_damaged : (after : List ℕ) (r : Small) (n : Refusal) → k ≡ Err n → after ≡ empty_table u → r ≡ empty_small → record { refusal = number n; table = after; small = r } ≡ loaded image t s
    unfolding loaded empty_table
    load_damaged after r n g a b =
        let d = says_damaged u x k n f g in
        let w : well_formed (image_table image) (image_small image) ≡ false = ap₂ well_formed (sym read) (sym small) ∙ sym (well_damaged u x k f d.0) in
        let l : length u ≡ length t = ap length read ∙ read_table image t (read_long image t m e z) in
        let c : after ≡ empty_table t = a ∙ ap (λ n. set (replicate n 0) 0 1) l in
        rw (d.1, sym e, z, w) (λ i. record { refusal = 4; table = c i; small = b i })

-- the promise of `count` leaves one case
says_counted : (t : List ℕ) (s : Small) → count_says (counted t s) ≡ count_answer t s
unfolding counted
says_counted t s = by_tests (table_fits t) (well_formed t s)
  where
    by_tests : (f w : Bool) → count_says (cond f (cond w (Ok (counts_of t s)) (Err no.Damaged)) (Err no.Table)) ≡ cond f (cond w (numbers_of t s) (NotCounted 4)) (NotCounted 1)
    by_tests true true = refl
    by_tests true false = refl
    by_tests false w = refl

same_said : (a b : Result Counts Refusal) → count_says a ≡ count_says b → a ≡ b
same_said (Err a) (Err b) e = let h : number a ≡ number b = cc in ap Err (number_tells a b h)
same_said (Ok a) (Ok b) e =
    let accepted : a.accepted ≡ b.accepted = cc in
    let held : a.held ≡ b.held = cc in
    let struck : a.struck ≡ b.struck = cc in
    let covered : a.covered ≡ b.covered = cc in
    λ i. Ok (record { accepted = accepted i; held = held i; struck = struck i; covered = covered i })
same_said (Err a) (Ok b) e = let z : ◌≡◌ {A = ℕ} 0 1 = cc in absurd (omega arith)
same_said (Ok a) (Err b) e = let z : ◌≡◌ {A = ℕ} 0 1 = cc in absurd (omega arith)

pub count_is : (t : List ℕ) (s : Small) (r : Result Counts Refusal) → count_says r ≡ count_answer t s → r ≡ counted t s
count_is t s r e = same_said r (counted t s) (e ∙ sym (says_counted t s))

-- on a well-formed book the numbers are told, and held, struck and covered make up accepted
pub counts_add_up : (t : List ℕ) (s : Small) → well_formed t s ≡ true → (count_answer t s ≡ numbers_of t s) × (length (held_records (pages_of t) s) + s.struck + s.covered ≡ s.accepted)
unfolding counts_stand
counts_add_up t s w =
    let p = parts t s w in
    let c = both (leb s.accepted most_accepted) (eqb (length (held_records (pages_of t) s) + s.struck + s.covered) s.accepted) p.counts in
    (rw (p.fits, w), eqb-true (length (held_records (pages_of t) s) + s.struck + s.covered) s.accepted c.1)
