-- The transcript of rule 9.1, read and printed by computation, and lines that are refused by 9.
use Rattle.std.specs.Prelude.{List, [], ◌∷◌, map, ◌≡◌, refl, ℕ, replicate, Result, Ok, Err}
use Prim.Native.String.{String}
use Rattle.ground.specs.Boxes.{day_limit}
use Rattle.ground.specs.Dates.{length_of_year, length_of_month, is_date, days_before_year, days_before_month, day_number}
use Rattle.ground.specs.Sums.{total}
use Rattle.ground.specs.declared.refusals.Refusal.{Refusal}
use Rattle.lines.specs.Lines.{text, line_refusal, with_byte, words, are_digits, number_from, is_a, value, are_a, values, same, command, command_of, parsed}
use Rattle.lines.specs.Printing.{decimal_of, printed}
use Rattle.wide.specs.declared.WideBox.{WideBox}
use Rattle.lines.specs.declared.reading.Line.{Line}
use Rattle.lines.specs.declared.reading.Line.TheVariants.{Add, Ask, Count}
use Rattle.lines.specs.declared.printing.Answer.TheVariants.{Kept, Cut, Covered, Gust, Nothing, Counts}

abbrev line_typed : String → Result Line Refusal
line_typed s = parsed (text s)

abbrev box : ℕ → ℕ → ℕ → ℕ → ℕ → ℕ → WideBox
box a b c d e f = record { east = record { low = a; high = b }; north = record { low = c; high = d }; day = record { low = e; high = f } }

-- the eight lines of the transcript
abbrev typed_lines : List String
typed_lines =
    "add 10 19 10 19 1900-01-01 1900-01-10 250"
    ∷ "ask 19 25 19 25 1900-01-10 1900-02-01"
    ∷ "ask 20 25 10 19 1900-01-01 1900-01-10"
    ∷ "add 10 29 10 19 1900-01-01 1900-01-10 250"
    ∷ "add 15 35 10 19 1900-01-01 1900-01-10 250"
    ∷ "add 12 18 12 18 1900-01-02 1900-01-03 100"
    ∷ "add 5 4 0 0 1900-01-01 1900-01-01 1"
    ∷ "count"
    ∷ []

pub transcript_read :
    map line_typed typed_lines
    ≡ Ok (Add (box 10 19 10 19 7_305 7_314) 250)
    ∷ Ok (Ask (box 19 25 19 25 7_314 7_336))
    ∷ Ok (Ask (box 20 25 10 19 7_305 7_314))
    ∷ Ok (Add (box 10 29 10 19 7_305 7_314) 250)
    ∷ Ok (Add (box 15 35 10 19 7_305 7_314) 250)
    ∷ Ok (Add (box 12 18 12 18 7_306 7_307) 100)
    ∷ Ok (Add (box 5 4 0 0 7_305 7_305) 1)
    ∷ Ok Count
    ∷ []
unfolding with_byte words are_digits number_from is_a value are_a values same command command_of parsed is_date length_of_month day_number days_before_year days_before_month length_of_year total
transcript_read = refl

pub transcript_printed :
    map printed (Ok (Kept 0) ∷ Ok (Gust 250 1) ∷ Ok (Nothing 1) ∷ Ok (Kept 1) ∷ Ok (Cut 0) ∷ Ok (Covered 0) ∷ Err 2 ∷ Ok (Counts 4 2 1 1) ∷ [])
    ≡ text "kept struck 0\n"
    ∷ text "gust 250 pages 1\n"
    ∷ text "nothing pages 1\n"
    ∷ text "kept struck 1\n"
    ∷ text "cut struck 0\n"
    ∷ text "covered struck 0\n"
    ∷ text "refused 2\n"
    ∷ text "accepted 4 held 2 struck 1 covered 1\n"
    ∷ []
unfolding decimal_of printed
transcript_printed = refl

-- Rules 8.5, 8.11: leading zeros are read, and a number of five digits is a number: the book refuses it by 2 or 3
pub numbers_read :
    map line_typed ("ask 00000 00007 0 4095 1880-01-01 2039-12-31" ∷ "add 0 65536 0 99999 1880-02-29 1880-03-01 99999" ∷ [])
    ≡ Ok (Ask (box 0 7 0 4_095 0 day_limit)) ∷ Ok (Add (box 0 65_536 0 99_999 59 60) 99_999) ∷ []
unfolding with_byte words are_digits number_from is_a value are_a values same command command_of parsed is_date length_of_month day_number days_before_year days_before_month length_of_year total
numbers_read = refl

-- an empty line, a space too many, a digit too many, a sign, another case, an argument too few or too many, dates that the calendar lacks
pub lines_refused :
    map line_typed
    ("" ∷ " " ∷ " count" ∷ "count " ∷ "count 1" ∷ "counts" ∷ "Count" ∷ "count\r" ∷ "add" ∷ "ask "
    ∷ "ask 0  0 0 0 1900-01-01 1900-01-01"
    ∷ "ask 0 0 0 0 1900-01-01 1900-01-01 "
    ∷ "ask 0 000000 0 0 1900-01-01 1900-01-01"
    ∷ "ask 0 +1 0 0 1900-01-01 1900-01-01"
    ∷ "ask 0 0 0 0 1900-01-01"
    ∷ "ask 0 0 0 0 1900-01-01 1900-01-01 5"
    ∷ "add 0 0 0 0 1900-01-01 1900-01-01"
    ∷ "ask 0 0 0 0 1900-02-29 1904-02-29"
    ∷ "ask 0 0 0 0 1904-02-29 1904-02-30"
    ∷ "ask 0 0 0 0 1879-12-31 1900-01-01"
    ∷ "ask 0 0 0 0 1900-01-01 2040-01-01"
    ∷ "ask 0 0 0 0 1900-13-01 1900-01-01"
    ∷ "ask 0 0 0 0 1900-1-01 1900-01-01"
    ∷ "ask 0 0 0 0 1900/01/01 1900-01-01"
    ∷ [])
    ≡ replicate 24 (Err line_refusal)
unfolding with_byte words are_digits number_from is_a value are_a values same command command_of parsed is_date length_of_month day_number days_before_year days_before_month length_of_year total
lines_refused = refl

-- numbers are printed without leading zeros, up to the greatest of 32 bits
pub numbers_printed :
    map printed (Ok (Kept 10) ∷ Ok (Gust 0 180) ∷ Err 9 ∷ Ok (Counts 1_000_000 0 999_999 4_294_967_295) ∷ [])
    ≡ text "kept struck 10\n" ∷ text "gust 0 pages 180\n" ∷ text "refused 9\n" ∷ text "accepted 1000000 held 0 struck 999999 covered 4294967295\n" ∷ []
unfolding decimal_of printed
numbers_printed = refl
