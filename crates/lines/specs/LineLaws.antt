-- Laws for the storey above: a line too long, and the room that an answer takes.
use Rattle.std.specs.Prelude.{List, ◌++◌, ◌≡◌, ℕ, ◌+◌, ◌≤◌, ◌<◌, Result, Ok, Err, length}
use Rattle.std.proofs.Common.{arith, le-leb, length-append}
use Rattle.std.proofs.lemmas.Bool.{lt-leb}
use Rattle.lines.specs.Lines.{text, line_refusal, longest_line, words, command_of, parsed}
use Rattle.lines.specs.Printing.{decimal, labelled, line_end, printed, put, longest_answer, buffer_after, place_after}
use Rattle.lines.specs.NumberLaws.{decimal_most}
use Rattle.lines.specs.declared.printing.Answer.{Answer}
use Rattle.lines.specs.declared.printing.Answer.TheVariants as answer

-- whatever a line has, it is refused if it has more than 80 bytes
pub long_refused : (line : List ℕ) → longest_line < length line → parsed line ≡ Err line_refusal
unfolding parsed
long_refused line h = rw (lt-leb (length line) longest_line h)

-- and any other is what its words are
pub by_words : (line : List ℕ) → length line ≤ longest_line → parsed line ≡ command_of (words line)
unfolding parsed
by_words line h = rw (le-leb (length line) longest_line h)

-- a label and a number, before what follows them
most_after : (label : List ℕ) (n k : ℕ) (bytes : List ℕ) → length bytes ≤ k → length ((label ++ decimal n) ++ bytes) ≤ length label + 10 + k
most_after label n k bytes h = omega (arith, length-append (label ++ decimal n) bytes, length-append label (decimal n), decimal_most 10 n)

-- no answer is longer than the longest
pub printed_most : (a : Result Answer ℕ) → length (printed a) ≤ longest_answer
unfolding printed
printed_most (Ok (answer.Kept n)) = omega (arith, most_after (text "kept struck ") n 1 line_end (omega arith))
printed_most (Ok (answer.Cut n)) = omega (arith, most_after (text "cut struck ") n 1 line_end (omega arith))
printed_most (Ok (answer.Covered n)) = omega (arith, most_after (text "covered struck ") n 1 line_end (omega arith))
printed_most (Ok (answer.Gust g n)) = omega (arith, most_after (text "gust ") g 18 (labelled " pages " n ++ line_end) (most_after (text " pages ") n 1 line_end (omega arith)))
printed_most (Ok (answer.Nothing n)) = omega (arith, most_after (text "nothing pages ") n 1 line_end (omega arith))
printed_most (Ok (answer.Counts a h s c)) =
    let covered = labelled " covered " c ++ line_end in
    let struck = labelled " struck " s ++ covered in
    let held = labelled " held " h ++ struck in
    most_after (text "accepted ") a 54 held (most_after (text " held ") h 38 struck (most_after (text " struck ") s 20 covered (most_after (text " covered ") c 1 line_end (omega arith))))
printed_most (Err refusal) = omega (arith, most_after (text "refused ") refusal 1 line_end (omega arith))

-- where the longest answer fits, an answer is put there, and the next place is still in the buffer
pub prints_at : (a : Result Answer ℕ) (buffer : List ℕ) (place : ℕ) → place + longest_answer ≤ length buffer → (buffer_after a buffer place ≡ put buffer place (printed a)) × (place_after a buffer place ≡ place + length (printed a)) × (place_after a buffer place ≤ length buffer)
unfolding buffer_after place_after
prints_at a buffer place h =
    let fits = le-leb (place + longest_answer) (length buffer) h in
    (rw fits, rw fits, rw fits (omega (arith, printed_most a)))
