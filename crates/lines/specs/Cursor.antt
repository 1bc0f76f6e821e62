-- How the code goes through a line: word after word, each read as what it must be.
-- Nothing here has to be believed: the promise of `parse` speaks of `Lines` alone, and its proof shows that both agree.
use Rattle.std.specs.Prelude.{ℕ, cond, Option, Some, None, List, [], ◌∷◌, drop, Result, Ok, Err}
use Rattle.std.specs.Borrow.{Bor}
use Rattle.std.specs.Option.{option_map, option_and_then}
use Rattle.ground.specs.Dates.{day_of}
use Rattle.ground.specs.declared.refusals.Refusal.{Refusal}
use Rattle.wide.specs.declared.Span.{Span}
use Rattle.wide.specs.declared.WideBox.{WideBox}
use Rattle.lines.specs.Lines.{Word, words, are_digits, is_number, number, is_dashed, date_in, line_refusal}
use Rattle.lines.specs.declared.reading.Line.{Line}

-- The words that are left: none once the last is read.
abbrev pub words_left : Option (Bor (List ℕ)) → List Word
words_left None = []
words_left (Some rest) = words rest.now

-- What a word says: as digits, as a number, as a date.
abbrev pub digits_in : Word → Option ℕ
digits_in w = cond (are_digits w) (Some (number w)) None

abbrev pub number_in : Word → Option ℕ
number_in w = cond (is_number w) (Some (number w)) None

abbrev pub day_in : Word → Option ℕ
day_in w = cond (is_dashed w) (day_of (date_in w)) None

-- The next words: an argument, the two ends of a span, a box.
abbrev pub argument_next : (Word → Option ℕ) → List Word → Option ℕ
argument_next says [] = None
argument_next says (w ∷ ws) = says w

abbrev pub span_next : Option ℕ → Option ℕ → Option Span
span_next v w = option_and_then (λ low. option_map (λ high. record { low = low; high = high }) w) v

abbrev pub box_of : Option Span → Option Span → Option Span → Option WideBox
box_of r s t = option_and_then (λ east. option_and_then (λ north. option_map (λ day. record { east = east; north = north; day = day }) t) s) r

abbrev pub box_next : List Word → Option WideBox
box_next ws =
    let w₁ = drop 1 ws in
    let w₂ = drop 1 w₁ in
    let w₃ = drop 1 w₂ in
    let w₄ = drop 1 w₃ in
    let w₅ = drop 1 w₄ in
    box_of (span_next (argument_next number_in ws) (argument_next number_in w₁)) (span_next (argument_next number_in w₂) (argument_next number_in w₃)) (span_next (argument_next day_in w₄) (argument_next day_in w₅))

-- The call that was read is the line's if no word is left.
abbrev pub if_no_more : List Word → Option Line → Result Line Refusal
if_no_more ws None = Err line_refusal
if_no_more [] (Some l) = Ok l
if_no_more (w ∷ ws) (Some l) = Err line_refusal
