-- RULES.md, section 8: what a line asks for. A line is its bytes, without the byte 10 that ends it.
use Rattle.std.specs.Prelude.{ℕ, ◌+◌, ◌-◌, ◌*◌, Bool, true, false, ◌&&◌, cond, List, [], ◌∷◌, leb, eqb, length, get_or, take, drop, Result, Ok, Err}
use Prim.Native.Char.{code}
use Prim.Native.String.{String, [] as no_text, ◌∷◌ as ◌then◌}
use Rattle.ground.specs.Dates.{is_date, day_number}
use Rattle.ground.specs.declared.dates.Date.{Date}
use Rattle.ground.specs.declared.refusals.Refusal.{Refusal}
use Rattle.ground.specs.declared.refusals.Refusal.TheVariants as no
use Rattle.wide.specs.declared.WideBox.{WideBox}
use Rattle.lines.specs.declared.reading.Line.{Line}
use Rattle.lines.specs.declared.reading.Line.TheVariants.{Add, Ask, Count}

abbrev pub Word : Type 0
Word = List ℕ

-- The bytes of a text.
abbrev pub text : String → List ℕ
text no_text = []
text (c then cs) = code c ∷ text cs

abbrev pub space : ℕ
space = 32

abbrev pub dash : ℕ
dash = 45

-- Rule 8.4: words are parted by one space. Before the words of what follows, a space puts an empty word; any other byte goes to the front of the first.
unfoldable pub with_byte : Bool → ℕ → List Word → List Word
with_byte true b ws = [] ∷ ws
with_byte false b [] = (b ∷ []) ∷ []
with_byte false b (w ∷ ws) = (b ∷ w) ∷ ws

unfoldable pub words : List ℕ → List Word
words [] = [] ∷ []
words (b ∷ bs) = with_byte (eqb b space) b (words bs)

-- Rule 8.5: numbers of 1 to 5 digits, the first digit the greatest. Leading zeros may stand.
abbrev pub is_digit : ℕ → Bool
is_digit b = leb 48 b && leb b 57

unfoldable pub are_digits : List ℕ → Bool
are_digits [] = true
are_digits (b ∷ bs) = is_digit b && are_digits bs

abbrev pub is_number : Word → Bool
is_number w = leb 1 (length w) && leb (length w) 5 && are_digits w

unfoldable pub number_from : ℕ → List ℕ → ℕ
number_from n [] = n
number_from n (b ∷ bs) = number_from (10 * n + (b - 48)) bs

abbrev pub number : Word → ℕ
number w = number_from 0 w

-- Rule 8.6: dates are YYYY-MM-DD, and the calendar has them.
abbrev pub part : ℕ → ℕ → Word → Word
part start count w = take count (drop start w)

abbrev pub date_in : Word → Date
date_in w = record { year = number (part 0 4 w); month = number (part 5 2 w); day = number (part 8 2 w) }

abbrev pub is_dashed : Word → Bool
is_dashed w =
    eqb (length w) 10 && are_digits (part 0 4 w) && eqb (get_or w 4 0) dash && are_digits (part 5 2 w) && eqb (get_or w 7 0) dash && are_digits (part 8 2 w)

abbrev pub is_date_word : Word → Bool
is_date_word w = is_dashed w && is_date (date_in w)

-- An argument is a number or a date, whose value is its day.
pub data Kind : Type 0 where
  a_number : Kind
  a_date : Kind

unfoldable pub is_a : Kind → Word → Bool
is_a a_number w = is_number w
is_a a_date w = is_date_word w

unfoldable pub value : Kind → Word → ℕ
value a_number w = number w
value a_date w = day_number (date_in w)

-- Words are so many arguments, each of its kind.
unfoldable pub are_a : List Kind → List Word → Bool
are_a [] [] = true
are_a [] (w ∷ ws) = false
are_a (k ∷ ks) [] = false
are_a (k ∷ ks) (w ∷ ws) = is_a k w && are_a ks ws

unfoldable pub values : List Kind → List Word → List ℕ
values [] ws = []
values (k ∷ ks) [] = []
values (k ∷ ks) (w ∷ ws) = value k w ∷ values ks ws

-- Rule 8.7: `add` with seven arguments, east low, high, north low, high, first date, last date, gust;
abbrev pub add_arguments : List Kind
add_arguments = a_number ∷ a_number ∷ a_number ∷ a_number ∷ a_date ∷ a_date ∷ a_number ∷ []

-- Rule 8.8: `ask` with the first six;
abbrev pub ask_arguments : List Kind
ask_arguments = take 6 add_arguments

-- Rule 8.9: `count`.
abbrev pub count_arguments : List Kind
count_arguments = []

-- Rules 8.7, 8.11: the box and the gust that the arguments' values are, in their order, however great.
abbrev pub box_typed : List ℕ → WideBox
box_typed vs =
    record {
      east = record { low = get_or vs 0 0; high = get_or vs 1 0 };
      north = record { low = get_or vs 2 0; high = get_or vs 3 0 };
      day = record { low = get_or vs 4 0; high = get_or vs 5 0 };
    }

abbrev pub gust_typed : List ℕ → ℕ
gust_typed vs = get_or vs 6 0

-- A word is the one that a command is known by.
unfoldable pub same : Word → Word → Bool
same [] [] = true
same [] (b ∷ w) = false
same (a ∷ v) [] = false
same (a ∷ v) (b ∷ w) = eqb a b && same v w

-- Rule 7.9: what a line of none of the forms is refused by.
abbrev pub line_refusal : Refusal
line_refusal = no.Line

-- Rules 8.7, 8.8, 8.9, 8.10: a line of a command is its word, then its arguments. Any other line is refused.
unfoldable pub command : Word → List Word → Result Line Refusal
command w ws =
    cond (same w (text "add") && are_a add_arguments ws) (Ok (Add (box_typed (values add_arguments ws)) (gust_typed (values add_arguments ws))))
    (cond (same w (text "ask") && are_a ask_arguments ws) (Ok (Ask (box_typed (values ask_arguments ws))))
    (cond (same w (text "count") && are_a count_arguments ws) (Ok Count) (Err line_refusal)))

unfoldable pub command_of : List Word → Result Line Refusal
command_of [] = Err line_refusal
command_of (w ∷ ws) = command w ws

-- Rules 8.3, 8.10: lines of at most 80 bytes; a longer one is refused.
abbrev pub longest_line : ℕ
longest_line = 80

unfoldable pub parsed : List ℕ → Result Line Refusal
parsed line = cond (leb (length line) longest_line) (command_of (words line)) (Err line_refusal)
