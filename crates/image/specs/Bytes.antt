-- RULES.md, section 6: numbers and words as bytes.
use Rattle.std.specs.Prelude.{List, [], ◌∷◌, ◌++◌, ℕ, zero, suc, ◌+◌, ◌*◌, ◌/◌, ◌%◌}

-- Rule 6.2: a number as so many bytes, the low byte first.
unfoldable pub low_first : ℕ → ℕ → List ℕ
low_first zero x = []
low_first (suc n) x = x % 256 ∷ low_first n (x / 256)

abbrev pub bytes16 : ℕ → List ℕ
bytes16 x = low_first 2 x

abbrev pub bytes32 : ℕ → List ℕ
bytes32 x = low_first 4 x

-- The number that bytes are: of 16 bits if they are two, of 32 if they are four.
unfoldable pub number : List ℕ → ℕ
number [] = 0
number (b ∷ bs) = b + 256 * number bs

-- Rule 6.2: each word as its two bytes, in order.
unfoldable pub word_bytes : List ℕ → List ℕ
word_bytes [] = []
word_bytes (w ∷ ws) = bytes16 w ++ word_bytes ws

-- Each two bytes as a word, in order.
unfoldable pub byte_words : List ℕ → List ℕ
byte_words [] = []
byte_words (a ∷ []) = []
byte_words (a ∷ b ∷ bs) = number (a ∷ b ∷ []) ∷ byte_words bs
