-- How the code fills a buffer: bytes after bytes, and the digits of a number from its last one on.
-- Nothing here has to be believed: the promise of `print` speaks of `Printing` alone.
use Rattle.std.specs.Prelude.{ℕ, zero, suc, ◌+◌, ◌/◌, ◌%◌, List, [], ◌∷◌, ◌++◌, ◌≡◌, length, Result}
use Rattle.lines.specs.Printing.{line_end, printed, put}
use Rattle.lines.specs.declared.printing.Answer.{Answer}
use Rattle.lines.specs.declared.text.Text.{Text}

-- So many of a number's last digits, zeros before them if it has fewer.
unfoldable pub last_digits : ℕ → ℕ → List ℕ
last_digits zero n = []
last_digits (suc k) n = last_digits k (n / 10) ++ ((48 + n % 10) ∷ [])

-- Bytes are put at the place, and the next place is past them.
pub record Puts (bytes : List ℕ) (before after : Text) : Type 0 where
  pub buffer : after.out.now ≡ put before.out.now before.at bytes
  pub past : after.at ≡ before.at + length bytes
  pub long : length after.out.now ≡ length before.out.now

-- All that is printed but for the line's end.
pub record Said (said : Result Answer ℕ) (before after : Text) : Type 0 where
  pub bytes : List ℕ
  pub but_end : bytes ++ line_end ≡ printed said
  pub puts : Puts bytes before after
