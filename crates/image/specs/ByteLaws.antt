-- Bytes and numbers, there and back.
use Rattle.std.specs.Prelude.{◌≡◌, refl, List, [], ◌∷◌, ◌++◌, ℕ, zero, suc, ◌+◌, ◌*◌, ◌/◌, ◌%◌, ◌^◌, ◌<◌, length, get_or, take, drop}
use Rattle.std.proofs.Common.{sym, ap, append_assoc, arith, get_or-drop}
use Rattle.std.proofs.Math.Nat.{pow-succ'}
use Rattle.image.specs.Bytes.{low_first, bytes16, number, word_bytes, byte_words}

-- every number of a list is below a bound
abbrev pub Below : ℕ → List ℕ → Type 0
Below n l = (k : ℕ) → get_or l k 0 < n

pub below_take : (n m : ℕ) (l : List ℕ) → Below n l → Below n (take m l)
below_take n zero l h k = omega (arith, h 0)
below_take n (suc m) [] h k = h k
below_take n (suc m) (x ∷ l) h zero = h 0
below_take n (suc m) (x ∷ l) h (suc k) = below_take n m l (λ j. h (suc j)) k

pub below_drop : (n m : ℕ) (l : List ℕ) → Below n l → Below n (drop m l)
below_drop n m l h k = rw (get_or-drop m l k 0) (h (m + k))

pub length_low_first : (n x : ℕ) → length (low_first n x) ≡ n
unfolding low_first
length_low_first zero x = refl
length_low_first (suc n) x = ap suc (length_low_first n (x / 256))

-- a number that fits its bytes is the number that they are
pub number_low_first : (n x : ℕ) → x < 256 ^ n → number (low_first n x) ≡ x
unfolding low_first number
number_low_first zero x h = omega arith
number_low_first (suc n) x h =
    let below : x / 256 < 256 ^ n = omega (arith, rw pow-succ' at h) in
    rw (number_low_first n (x / 256) below) (omega arith)

-- and bytes are those of the number that they are
pub low_first_number : (bs : List ℕ) → Below 256 bs → low_first (length bs) (number bs) ≡ bs
unfolding low_first number
low_first_number [] h = refl
low_first_number (b ∷ bs) h =
    let here : b < 256 = h 0 in
    let low : (b + 256 * number bs) % 256 ≡ b = omega arith in
    let rest : (b + 256 * number bs) / 256 ≡ number bs = omega arith in
    rw (low, rest, low_first_number bs (λ k. h (suc k)))

pub length_word_bytes : (ws : List ℕ) → length (word_bytes ws) ≡ 2 * length ws
unfolding word_bytes low_first
length_word_bytes [] = refl
length_word_bytes (w ∷ ws) = omega (arith, length_word_bytes ws)

pub length_byte_words : (n : ℕ) (bs : List ℕ) → length bs ≡ 2 * n → length (byte_words bs) ≡ n
unfolding byte_words
length_byte_words zero [] e = refl
length_byte_words (suc n) [] e = absurd (omega arith)
length_byte_words zero (a ∷ []) e = absurd (omega arith)
length_byte_words (suc n) (a ∷ []) e = absurd (omega arith)
length_byte_words zero (a ∷ b ∷ bs) e = absurd (omega arith)
length_byte_words (suc n) (a ∷ b ∷ bs) e = ap suc (length_byte_words n bs (omega arith))

-- words that fit 16 bits are those that their bytes make
pub byte_words_word_bytes : (ws : List ℕ) → Below 65_536 ws → byte_words (word_bytes ws) ≡ ws
unfolding byte_words word_bytes low_first number
byte_words_word_bytes [] h = refl
byte_words_word_bytes (w ∷ ws) h =
    let here : w < 65_536 = h 0 in
    let word : w % 256 + 256 * (w / 256 % 256 + 256 * 0) ≡ w = omega arith in
    rw (word, byte_words_word_bytes ws (λ k. h (suc k)))

-- and bytes in pairs are those of the words that they make
pub word_bytes_byte_words : (n : ℕ) (bs : List ℕ) → length bs ≡ 2 * n → Below 256 bs → word_bytes (byte_words bs) ≡ bs
unfolding byte_words word_bytes low_first number
word_bytes_byte_words n [] e h = refl
word_bytes_byte_words n (a ∷ []) e h = absurd (omega arith)
word_bytes_byte_words zero (a ∷ b ∷ bs) e h = absurd (omega arith)
word_bytes_byte_words (suc n) (a ∷ b ∷ bs) e h =
    let first : a < 256 = h 0 in
    let second : b < 256 = h 1 in
    let low : (a + 256 * (b + 256 * 0)) % 256 ≡ a = omega arith in
    let rest : (a + 256 * (b + 256 * 0)) / 256 ≡ b = omega arith in
    let high : b % 256 ≡ b = omega arith in
    rw (low, rest, high, word_bytes_byte_words n bs (omega arith) (λ k. h (suc (suc k))))

-- one word more, one pair of bytes more
pub word_bytes_append : (us ws : List ℕ) → word_bytes (us ++ ws) ≡ word_bytes us ++ word_bytes ws
unfolding word_bytes
word_bytes_append [] ws = refl
word_bytes_append (u ∷ us) ws = rw (word_bytes_append us ws) (sym (append_assoc (bytes16 u) (word_bytes us) (word_bytes ws)))

pub byte_words_append : (n : ℕ) (front back : List ℕ) → length front ≡ 2 * n → byte_words (front ++ back) ≡ byte_words front ++ byte_words back
unfolding byte_words
byte_words_append n [] back e = refl
byte_words_append n (a ∷ []) back e = absurd (omega arith)
byte_words_append zero (a ∷ b ∷ front) back e = absurd (omega arith)
byte_words_append (suc n) (a ∷ b ∷ front) back e =
    ap (λ (l : List ℕ). number (a ∷ b ∷ []) ∷ l) (byte_words_append n front back (omega arith))
