-- Word after word, as the code reads them, a line's words come to what the rules read in them at once.
use Rattle.std.proofs.Common.{◌≡◌, ℕ, ◌+◌, Bool, true, false, ◌&&◌, cond, eqb, List, [], ◌∷◌, drop, drop-drop, Option, Some, None, Ok, Err, refl, sym, ◌∙◌, ap}
use Rattle.std.specs.Option.{option_map, option_and_then, ok_or}
use Rattle.std.specs.Cmp.Lexicographic.{pointwise}
use Rattle.ground.specs.Dates.{is_date, day_number, day_of}
use Rattle.lines.specs.Lines.{Word, text, is_dashed, date_in, Kind, a_number, a_date, is_a, value, are_a, values, add_arguments, ask_arguments, box_typed, gust_typed, same, command, command_of, line_refusal}
use Rattle.lines.specs.Cursor.{number_in, day_in, argument_next, span_next, box_of, box_next, if_no_more}
use Rattle.lines.specs.declared.reading.Line.{Line}
use Rattle.lines.specs.declared.reading.Line.TheVariants.{Add, Ask, Count}
use Rattle.wide.specs.declared.WideBox.{WideBox}

-- a word as an argument of its kind
abbrev says : Kind → Word → Option ℕ
says a_number = number_in
says a_date = day_in

says_so : (k : Kind) (w : Word) → says k w ≡ cond (is_a k w) (Some (value k w)) None
unfolding is_a value day_of
says_so a_number w = refl
says_so a_date w = by_form (is_dashed w) (is_date (date_in w)) (day_number (date_in w))
  where
    by_form : (s t : Bool) (d : ℕ) → cond s (cond t (Some d) None) None ≡ cond (s && t) (Some d) None
    by_form true t d = refl
    by_form false t d = refl

-- so many arguments and no more, one after the other
abbrev whole : List Kind → List Word → Option (List ℕ)
whole [] [] = Some []
whole [] (w ∷ ws) = None
whole (k ∷ ks) ws = option_and_then (λ v. option_map (λ vs. v ∷ vs) (whole ks (drop 1 ws))) (argument_next (says k) ws)

whole_so : (ks : List Kind) (ws : List Word) → whole ks ws ≡ cond (are_a ks ws) (Some (values ks ws)) None
unfolding are_a values
whole_so [] [] = refl
whole_so [] (w ∷ ws) = refl
whole_so (k ∷ ks) [] = refl
whole_so (k ∷ ks) (w ∷ ws) = rw (says_so k w, whole_so ks ws) (by_kinds (is_a k w) (are_a ks ws))
  where
    by_kinds :
        (s t : Bool) → option_and_then (λ v. option_map (λ vs. v ∷ vs) (cond t (Some (values ks ws)) None)) (cond s (Some (value k w)) None) ≡ cond (s && t) (Some (value k w ∷ values ks ws)) None
    by_kinds true true = refl
    by_kinds true false = refl
    by_kinds false t = refl

-- the same, by the place where the next word stands
abbrev whole_at : List Kind → ℕ → List Word → Option (List ℕ)
whole_at [] n ws = whole [] (drop n ws)
whole_at (k ∷ ks) n ws = option_and_then (λ v. option_map (λ vs. v ∷ vs) (whole_at ks (n + 1) ws)) (argument_next (says k) (drop n ws))

by_place : (ks : List Kind) (n : ℕ) (ws : List Word) → whole ks (drop n ws) ≡ whole_at ks n ws
by_place [] n ws = refl
by_place (k ∷ ks) n ws = rw (drop-drop 1 n ws, by_place ks (n + 1) ws)

-- a line is refused if its arguments are not those of its command
by_arguments : (make : List ℕ → Line) (ks : List Kind) (ws : List Word) → cond (are_a ks ws) (Ok (make (values ks ws))) (Err line_refusal) ≡ ok_or (option_map make (whole_at ks 0 ws)) line_refusal
by_arguments make ks ws = rw (← by_place ks 0 ws, whole_so ks ws) (by_test (are_a ks ws))
  where
    by_test : (t : Bool) → cond t (Ok (make (values ks ws))) (Err line_refusal) ≡ ok_or (option_map make (cond t (Some (values ks ws)) None)) line_refusal
    by_test true = refl
    by_test false = refl

-- nothing is left
ended : (ws : List Word) (l : Line) → if_no_more ws (Some l) ≡ ok_or (option_map (λ (vs : List ℕ). l) (whole [] ws)) line_refusal
ended [] l = refl
ended (w ∷ ws) l = refl

-- six or seven arguments as the code puts them together
abbrev and_more : Option ℕ → Option (List ℕ) → Option (List ℕ)
and_more v vs = option_and_then (λ x. option_map (λ xs. x ∷ xs) vs) v

asked : (a b c d e f : Option ℕ) (o : Option (List ℕ))
    → option_map (λ vs. Ask (box_typed vs)) (and_more a (and_more b (and_more c (and_more d (and_more e (and_more f o))))))
    ≡ option_and_then (λ q. option_map (λ (vs : List ℕ). Ask q) o) (box_of (span_next a b) (span_next c d) (span_next e f))
asked None b c d e f o = refl
asked (Some a) None c d e f o = refl
asked (Some a) (Some b) None d e f o = refl
asked (Some a) (Some b) (Some c) None e f o = refl
asked (Some a) (Some b) (Some c) (Some d) None f o = refl
asked (Some a) (Some b) (Some c) (Some d) (Some e) None o = refl
asked (Some a) (Some b) (Some c) (Some d) (Some e) (Some f) None = refl
asked (Some a) (Some b) (Some c) (Some d) (Some e) (Some f) (Some vs) = refl

added : (a b c d e f g : Option ℕ) (o : Option (List ℕ))
    → option_map (λ vs. Add (box_typed vs) (gust_typed vs)) (and_more a (and_more b (and_more c (and_more d (and_more e (and_more f (and_more g o)))))))
    ≡ option_and_then (λ q. option_and_then (λ v. option_map (λ (vs : List ℕ). Add q v) o) g) (box_of (span_next a b) (span_next c d) (span_next e f))
added None b c d e f g o = refl
added (Some a) None c d e f g o = refl
added (Some a) (Some b) None d e f g o = refl
added (Some a) (Some b) (Some c) None e f g o = refl
added (Some a) (Some b) (Some c) (Some d) None f g o = refl
added (Some a) (Some b) (Some c) (Some d) (Some e) None g o = refl
added (Some a) (Some b) (Some c) (Some d) (Some e) (Some f) None o = refl
added (Some a) (Some b) (Some c) (Some d) (Some e) (Some f) (Some g) None = refl
added (Some a) (Some b) (Some c) (Some d) (Some e) (Some f) (Some g) (Some vs) = refl

box_so : (ws : List Word)
    → box_of (span_next (argument_next number_in ws) (argument_next number_in (drop 1 ws))) (span_next (argument_next number_in (drop 2 ws)) (argument_next number_in (drop 3 ws))) (span_next (argument_next day_in (drop 4 ws)) (argument_next day_in (drop 5 ws)))
    ≡ box_next ws
box_so ws = rw (drop-drop 1 1 ws, drop-drop 1 2 ws, drop-drop 1 3 ws, drop-drop 1 4 ws)

add_so :
    (ws : List Word)
    → command (text "add") ws ≡ ok_or (option_and_then (λ b. option_and_then (λ g. option_map (λ (vs : List ℕ). Add b g) (whole [] (drop 7 ws))) (argument_next number_in (drop 6 ws))) (box_next ws)) line_refusal
unfolding command same
add_so ws =
    by_arguments (λ vs. Add (box_typed vs) (gust_typed vs)) add_arguments ws
    ∙ ap (λ (l : Option Line). ok_or l line_refusal)
    (added (argument_next number_in ws) (argument_next number_in (drop 1 ws)) (argument_next number_in (drop 2 ws)) (argument_next number_in (drop 3 ws)) (argument_next day_in (drop 4 ws)) (argument_next day_in (drop 5 ws)) (argument_next number_in (drop 6 ws)) (whole [] (drop 7 ws)))
    ∙ rw (box_so ws)

ask_so : (ws : List Word) → command (text "ask") ws ≡ ok_or (option_and_then (λ b. option_map (λ (vs : List ℕ). Ask b) (whole [] (drop 6 ws))) (box_next ws)) line_refusal
unfolding command same
ask_so ws =
    by_arguments (λ vs. Ask (box_typed vs)) ask_arguments ws
    ∙ ap (λ (l : Option Line). ok_or l line_refusal)
    (asked (argument_next number_in ws) (argument_next number_in (drop 1 ws)) (argument_next number_in (drop 2 ws)) (argument_next number_in (drop 3 ws)) (argument_next day_in (drop 4 ws)) (argument_next day_in (drop 5 ws)) (whole [] (drop 6 ws)))
    ∙ rw (box_so ws)

count_so : (ws : List Word) → command (text "count") ws ≡ if_no_more ws (Some Count)
unfolding command same are_a
count_so [] = refl
count_so (w ∷ ws) = refl

-- words are compared as the library compares them
same_is : (v w : Word) → same v w ≡ pointwise eqb v w
unfolding same
same_is [] [] = refl
same_is [] (b ∷ w) = refl
same_is (a ∷ v) [] = refl
same_is (a ∷ v) (b ∷ w) = ap (λ t. eqb a b && t) (same_is v w)

-- what the code makes of a line whose first word is known
module _ (words ws : List Word) (w : Word) (first : words ≡ w ∷ ws) where
  module _ (is : w ≡ text "add") where
    pub add_no_box : box_next ws ≡ None → Err line_refusal ≡ command_of words
    unfolding command_of
    add_no_box e = rw (first, is, add_so ws, e)

    pub add_no_gust : (b : WideBox) → box_next ws ≡ Some b → argument_next number_in (drop 6 ws) ≡ None → Err line_refusal ≡ command_of words
    unfolding command_of
    add_no_gust b e f = rw (first, is, add_so ws, e, f)

    pub add_read : (b : WideBox) (g : ℕ) → box_next ws ≡ Some b → argument_next number_in (drop 6 ws) ≡ Some g → if_no_more (drop 1 (drop 6 ws)) (Some (Add b g)) ≡ command_of words
    unfolding command_of
    add_read b g e f = rw (first, is, add_so ws, e, f, drop-drop 1 6 ws) (ended (drop 7 ws) (Add b g))

  module _ (is : w ≡ text "ask") where
    pub ask_no_box : box_next ws ≡ None → Err line_refusal ≡ command_of words
    unfolding command_of
    ask_no_box e = rw (first, is, ask_so ws, e)

    pub ask_read : (b : WideBox) → box_next ws ≡ Some b → if_no_more (drop 6 ws) (Some (Ask b)) ≡ command_of words
    unfolding command_of
    ask_read b e = rw (first, is, ask_so ws, e) (ended (drop 6 ws) (Ask b))

  pub count_read : w ≡ text "count" → if_no_more ws (Some Count) ≡ command_of words
  unfolding command_of
  count_read is = rw (first, is) (sym (count_so ws))

  pub no_command : pointwise eqb w (text "add") ≡ false → pointwise eqb w (text "ask") ≡ false → pointwise eqb w (text "count") ≡ false → Err line_refusal ≡ command_of words
  unfolding command_of command
  no_command a b c = rw (first, same_is w (text "add"), a, same_is w (text "ask"), b, same_is w (text "count"), c)
