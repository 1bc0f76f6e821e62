-- RULES.md, section 2: what an index entry says of its child page, and is always exact.
use Rattle.std.specs.Prelude.{ℕ, min, Bool, cond, List, [], ◌∷◌, ltb, eqb, take}
use Rattle.ground.specs.Boxes.{join, size}
use Rattle.ground.specs.declared.boxes.Box.{Box}
use Rattle.pages.specs.Layout.{zero_box, zero_entry}
use Rattle.pages.specs.declared.Entry.{Entry}
use Rattle.pages.specs.declared.Page.{Page}

-- Rule 2.12: the entries in use, the first count of the eight.
abbrev pub in_use : Page → List Entry
in_use x = take x.count x.entries

-- Rule 2.11: level 1 is a leaf; a page of any other level is read as an index page.
abbrev pub is_leaf : ℕ → Bool
is_leaf level = eqb level 1

-- Rule 2.23: the strongest record's box, from a leaf entry its box, from an index entry its strongest box.
abbrev pub record_box : ℕ → Entry → Box
record_box level e = cond (is_leaf level) e.place e.strongest

-- Rule 2.24: the weakest gust, from a leaf entry its gust, from an index entry its weakest gust.
abbrev pub weak_gust : ℕ → Entry → ℕ
weak_gust level e = cond (is_leaf level) e.gust e.weakest

-- Rule 2.25: the candidate for the union box, a leaf entry's box, an index entry's union box; and its size.
abbrev pub union_box : ℕ → Entry → Box
union_box level e = cond (is_leaf level) e.place e.union

abbrev pub union_size : ℕ → Entry → ℕ
union_size level e = size (union_box level e)

abbrev pub gust_of : Entry → ℕ
gust_of e = e.gust

-- Rule 2.21: the smallest box that covers every entry.
unfoldable pub covering : List Entry → Box
covering [] = zero_box
covering (e ∷ []) = e.place
covering (e ∷ f ∷ es) = join e.place (covering (f ∷ es))

-- Rule 2.26: the entry that is greatest by a key. Ties go to the lower place: a later one only if its key is greater.
abbrev pub later_if_greater : (Entry → ℕ) → Entry → Entry → Entry
later_if_greater key e later = cond (ltb (key e) (key later)) later e

unfoldable pub first_greatest : (Entry → ℕ) → List Entry → Entry
first_greatest key [] = zero_entry
first_greatest key (e ∷ []) = e
first_greatest key (e ∷ f ∷ es) = later_if_greater key e (first_greatest key (f ∷ es))

-- The least of a key.
unfoldable pub least_of : (Entry → ℕ) → List Entry → ℕ
least_of key [] = 0
least_of key (e ∷ []) = key e
least_of key (e ∷ f ∷ es) = min (key e) (least_of key (f ∷ es))

-- Rules 2.21, 2.22, 2.23, 2.24, 2.25: the index entry for child page p, from the child's level and its entries in use; where there are none all is 0 but the child page.
unfoldable pub summary : ℕ → ℕ → List Entry → Entry
summary p level es =
    record {
      place = covering es;
      gust = (first_greatest gust_of es).gust;
      weakest = least_of (weak_gust level) es;
      child = p;
      strongest = record_box level (first_greatest gust_of es);
      union = union_box level (first_greatest (union_size level) es);
    }

unfoldable pub summary_of : ℕ → Page → Entry
summary_of p x = summary p x.level (in_use x)
