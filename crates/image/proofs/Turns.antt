-- The two loops over words: what holds at one turn more, and at the end.
use mathlib.Core.Path.{◌≡◌, sym, ap, ◌∙◌}
use mathlib.Core.List.{List, [], ◌∷◌, ◌++◌, append_assoc}
use Prim.Native.Nat.{ℕ, suc, ◌+◌, ◌*◌, ◌/◌, ◌%◌, ◌≤◌, ◌<◌}
use native.Mathlib.Numerals.{add-one}
use native.Mathlib.Omega.{arith}
use lib.ListN.{length, get_or, set, take, length-set, length-take}
use lib.Seq.{take-suc, take-suc-set, take_all}
use Rattle.image.specs.Bytes.{low_first, number, word_bytes, byte_words}
use Rattle.image.specs.ByteLaws.{word_bytes_append, byte_words_append}

-- a pair at n, stored and read
take_pair_set : (l : List ℕ) (n a b : ℕ) → n + 1 < length l → take (suc (suc n)) (set (set l n a) (n + 1) b) ≡ take n l ++ (a ∷ b ∷ [])
take_pair_set l n a b h =
    let one : n < length l = omega arith in
    let two : suc n < length (set l n a) = omega (arith, length-set l n a) in
    rw (add-one, take-suc-set (set l n a) (suc n) b two, take-suc-set l n a one) (append_assoc (take n l) (a ∷ []) (b ∷ []))

take_pair : (l : List ℕ) (n : ℕ) → n + 1 < length l → take (suc (suc n)) l ≡ take n l ++ (get_or l n 0 ∷ get_or l (n + 1) 0 ∷ [])
take_pair l n h =
    let one : n < length l = omega arith in
    let two : suc n < length l = omega arith in
    rw (add-one, take-suc l (suc n) 0 two, take-suc l n 0 one) (append_assoc (take n l) (get_or l n 0 ∷ []) (get_or l (suc n) 0 ∷ []))

twice_more : (i : ℕ) → 2 * (i + 1) ≡ suc (suc (2 * i))
twice_more i = omega arith

pub written_more :
    (ws out : List ℕ) (i low high : ℕ) → length out ≡ 2 * length ws → i < length ws → low ≡ get_or ws i 0 % 256 → high ≡ get_or ws i 0 / 256 % 256
    → take (2 * i) out ≡ word_bytes (take i ws) → take (2 * (i + 1)) (set (set out (2 * i) low) (2 * i + 1) high) ≡ word_bytes (take (i + 1) ws)
unfolding word_bytes low_first
written_more ws out i low high room less p q h =
    let inside : 2 * i + 1 < length out = omega arith in
    rw (twice_more i, take_pair_set out (2 * i) low high inside, add-one, take-suc ws i 0 less, word_bytes_append (take i ws) (get_or ws i 0 ∷ []), h, p, q)

pub written_all : (ws out : List ℕ) (i : ℕ) → length out ≡ 2 * length ws → length ws ≤ i → take (2 * i) out ≡ word_bytes (take i ws) → out ≡ word_bytes ws
written_all ws out i room done h =
    sym (take_all (2 * i) out (omega arith)) ∙ h ∙ ap word_bytes (take_all i ws done)

pub taken_more :
    (bytes ws : List ℕ) (i w : ℕ) → length bytes ≡ 2 * length ws → i < length ws → w ≡ number (get_or bytes (2 * i) 0 ∷ get_or bytes (2 * i + 1) 0 ∷ [])
    → take i ws ≡ byte_words (take (2 * i) bytes) → take (i + 1) (set ws i w) ≡ byte_words (take (2 * (i + 1)) bytes)
unfolding byte_words
taken_more bytes ws i w room less e h =
    let inside : 2 * i + 1 < length bytes = omega arith in
    let even : length (take (2 * i) bytes) ≡ 2 * i = omega (arith, length-take (2 * i) bytes) in
    let pair : List ℕ = get_or bytes (2 * i) 0 ∷ get_or bytes (2 * i + 1) 0 ∷ [] in
    rw (twice_more i, take_pair bytes (2 * i) inside, byte_words_append i (take (2 * i) bytes) pair even, add-one i, take-suc-set ws i w less, h, e)

pub taken_all : (bytes ws : List ℕ) (i : ℕ) → length bytes ≡ 2 * length ws → length ws ≤ i → take i ws ≡ byte_words (take (2 * i) bytes) → ws ≡ byte_words bytes
taken_all bytes ws i room done h =
    sym (take_all i ws done) ∙ h ∙ ap byte_words (take_all (2 * i) bytes (omega arith))
