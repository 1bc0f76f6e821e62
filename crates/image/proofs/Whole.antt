-- What the functions over a whole image return, from what their callees promise: pure laws over lists.
use mathlib.Core.Bool.{◌&&◌}
use mathlib.Core.Path.{◌≡◌, ap, ◌∙◌}
use mathlib.Core.List.{List, [], ◌∷◌, ◌++◌, append-nil}
use Prim.Native.Nat.{ℕ, ◌+◌, ◌*◌, ◌-◌, ◌/◌, ◌%◌, ◌≤◌}
use native.Mathlib.Omega.{arith}
use borrow.Author.Tests.{eqb-true, eq-eqb}
use lib.Dec.{leb, eqb}
use lib.ListN.{length, get_or, take, drop, length-append, length-drop, drop_of_length-le}
use lib.Seq.{take_at, drop_at, take_all}
use Rattle.ground.specs.Tests.{same_test}
use Rattle.std.specs.Bool.{then_some}
use Rattle.image.specs.Bytes.{word_bytes, byte_words}
use Rattle.image.specs.ByteLaws.{length_word_bytes}
use Rattle.pages.specs.Layout.{pages_in}
use Rattle.image.specs.Image.{image_of, image_pages, image_length, trailer_bytes, trailer_for, trailer_of}
use Rattle.image.specs.TrailerLaws.{trailer_read, trailer_words}
use Rattle.image.specs.declared.trailer.Trailer.{Trailer}
use Rattle.pages.specs.declared.Small.{Small}

-- a length that leaves 22 of 340 is the image's length for its pages
rest_so : (n : ℕ) → eqb (n % 340) 22 ≡ eqb n (image_length (n / 340))
rest_so n =
    same_test (eqb (n % 340) 22) (eqb n (image_length (n / 340)))
    (λ e. let h = eqb-true (n % 340) 22 e in eq-eqb n (image_length (n / 340)) (omega arith))
    (λ e. let h = eqb-true n (image_length (n / 340)) e in eq-eqb (n % 340) 22 (omega arith))

pub pages_told : (n : ℕ) → then_some (eqb (n % 340) 22 && leb 1 (n / 340) && leb (n / 340) 4_096) (n / 340) ≡ image_pages n
unfolding image_pages
pages_told n = rw (rest_so n)

-- the words of the trailer, one by one
pub words_told :
    (form pages : ℕ) (small : Small) (back d d' p h a a' s s' c c' : ℕ)
    → back ≡ pages - small.root
    → d ≡ 340 * back % 65_536
    → d' ≡ 340 * back / 65_536 % 65_536
    → p ≡ pages % 65_536
    → h ≡ small.height % 65_536
    → a ≡ small.accepted % 65_536
    → a' ≡ small.accepted / 65_536 % 65_536
    → s ≡ small.struck % 65_536
    → s' ≡ small.struck / 65_536 % 65_536
    → c ≡ small.covered % 65_536
    → c' ≡ small.covered / 65_536 % 65_536
    → word_bytes (d ∷ d' ∷ p ∷ h ∷ a ∷ a' ∷ s ∷ s' ∷ c ∷ c' ∷ form ∷ []) ≡ trailer_bytes (trailer_for form pages small)
unfolding trailer_for
words_told form pages small back d d' p h a a' s s' c c' e₀ e₁ e₂ e₃ e₄ e₅ e₆ e₇ e₈ e₉ e₁₀ =
    rw (e₁, e₂, e₃, e₄, e₅, e₆, e₇, e₈, e₉, e₁₀, e₀) (trailer_words (trailer_for form pages small))

-- the table's bytes and then the trailer's, over the whole buffer
pub image_told :
    (form : ℕ) (table : List ℕ) (small : Small) (first rest last words : List ℕ)
    → first ≡ word_bytes table
    → last ≡ word_bytes words
    → word_bytes words ≡ trailer_bytes (trailer_for form (pages_in table) small)
    → take (2 * length table) (first ++ rest) ++ (last ++ drop (length (first ++ rest) - 2 * length table) (drop (2 * length table) (first ++ rest)))
    ≡ image_of form table small
unfolding image_of
image_told form table small first rest last words e f g =
    let n : ℕ = 2 * length table in
    let long : length first ≡ n = ap length e ∙ length_word_bytes table in
    let past : length rest ≤ length (first ++ rest) - n = omega (arith, length-append first rest) in
    rw (drop_at first rest n long, take_at first rest n long, drop_of_length-le rest past, append-nil, e, f, g)

pub trailer_told :
    (image ws : List ℕ) (d a s c : ℕ) → 22 ≤ length image
    → ws ≡ byte_words (take (length image - (length image - 22)) (drop (length image - 22) image))
    → d ≡ get_or ws 0 0 + 65_536 * get_or ws 1 0
    → a ≡ get_or ws 4 0 + 65_536 * get_or ws 5 0
    → s ≡ get_or ws 6 0 + 65_536 * get_or ws 7 0
    → c ≡ get_or ws 8 0 + 65_536 * get_or ws 9 0
    → ◌≡◌ {A = Trailer}
    (record { distance = d; pages = get_or ws 2 0; height = get_or ws 3 0; accepted = a; struck = s; covered = c; form = get_or ws 10 0 })
    (trailer_of image)
unfolding trailer_of
trailer_told image ws d a s c h e p q r t =
    let bs : List ℕ = drop (length image - 22) image in
    let long : length bs ≡ 22 = length-drop (length image - 22) image ∙ omega arith in
    let all : take (length image - (length image - 22)) bs ≡ bs = take_all (length image - (length image - 22)) bs (omega arith) in
    cc (trailer_read bs long, e, ap byte_words all)
