-- The buffer of the line so far: its bytes, and 0 after them.
use Rattle.std.specs.Prelude.{ℕ, ◌+◌, ◌-◌, ◌≤◌, List, [], ◌++◌, ◌≡◌, length, take, replicate}
use Rattle.std.proofs.Common.{arith, ap, ◌∙◌, length-append}
use Rattle.std.proofs.lemmas.List.{length-take, length-replicate}
use Rattle.lines.specs.Lines.{longest_line}

abbrev pub line_buffer : List ℕ → List ℕ
line_buffer l = l ++ replicate (longest_line + 1 - length l) 0

-- The line so far stands in its buffer.
pub record IsLine (line : List ℕ) (held : ℕ) : Type 0 where
  pub most : held ≤ longest_line + 1
  pub is : line ≡ line_buffer (take held line)

pub line_length : (line : List ℕ) (held : ℕ) → IsLine line held → length (take held line) ≡ held
line_length line held h =
    let first = take held line in
    let all = ap length h.is ∙ length-append first (replicate (longest_line + 1 - length first) 0) in
    omega (arith, all, length-replicate {A = ℕ} (longest_line + 1 - length first) 0, length-take held line, h.most)
