-- Laws of the table: what was put is read, other pages stay, and the table is its list of pages.
use Rattle.std.specs.Prelude.{List, [], ◌∷◌, ◌++◌, ◌≡◌, refl, ℕ, zero, suc, ◌+◌, ◌*◌, ◌/◌, ◌≤◌, ◌<◌, true, ◌&&◌, leb, eqb, replicate, length, get_or, take, drop, set}
use Rattle.std.proofs.Common.{append_assoc, sym, ap, ◌∙◌, add_assoc, add-zero, not-suc-le-zero, le_of_suc-le-suc, arith, length-append, length-take, length-drop, take-append-drop, get_or-drop, drop-cons, drop-drop, drop_at, take-add, take_all, length-take-le, get_or-set_other}
use Rattle.ground.specs.declared.boxes.Box.{Box}
use Rattle.pages.specs.declared.Entry.{Entry}
use Rattle.pages.specs.declared.Page.{Page}
use Rattle.pages.specs.Layout.{page_words, entry_words, page_entries, most_pages, pages_in, table_fits, box_at, entry_at, entries_of, page_of, page_at, level_at, count_at, entry_start, entry_in}
use Rattle.pages.specs.Layout.{words_of_box, words_of_entry, words_of_entries, words_of_page, put_page, cut_pages, pages_of, table_of, zero_entry, free_page}
use Rattle.pages.specs.Facts.{fitting, InTable, in_pages}

-- reading from a later word on
pub box_drop : (t : List ℕ) (n k : ℕ) → box_at (drop n t) k ≡ box_at t (n + k)
unfolding box_at
box_drop t n k = simp (get_or-drop, add_assoc)

pub entry_drop : (t : List ℕ) (n k : ℕ) → entry_at (drop n t) k ≡ entry_at t (n + k)
unfolding entry_at
entry_drop t n k = simp (box_drop, get_or-drop, add_assoc)

-- the lengths of what is written
pub length_box : (b : Box) → length (words_of_box b) ≡ 6
unfolding words_of_box
length_box b = refl

pub length_entry : (e : Entry) → length (words_of_entry e) ≡ entry_words
unfolding words_of_entry words_of_box
length_entry e = refl

pub length_entries : (es : List Entry) → length (words_of_entries es) ≡ length es * entry_words
unfolding words_of_entries
length_entries [] = refl
length_entries (e ∷ es) = omega (arith, length-append (words_of_entry e) (words_of_entries es), length_entry e, length_entries es)

pub length_page : (x : Page) → length x.entries ≡ page_entries → length (words_of_page x) ≡ page_words
unfolding words_of_page
length_page x h = omega (arith, length_entries x.entries)

-- a page that is read has eight entries
pub length_entries_of : (n : ℕ) (w : List ℕ) → length (entries_of n w) ≡ n
unfolding entries_of
length_entries_of zero w = refl
length_entries_of (suc n) w = ap suc (length_entries_of n (drop entry_words w))

pub page_of_eight : (w : List ℕ) → length (page_of w).entries ≡ page_entries
unfolding page_of
page_of_eight w = length_entries_of page_entries (drop 2 w)

pub page_eight : (t : List ℕ) (p : ℕ) → length (page_at t p).entries ≡ page_entries
unfolding page_at
page_eight t p = page_of_eight (drop (p * page_words) t)

-- what was written is read
pub entries_read : (es : List Entry) (rest : List ℕ) → entries_of (length es) (words_of_entries es ++ rest) ≡ es
unfolding entries_of words_of_entries words_of_entry words_of_box entry_at box_at
entries_read [] rest = refl
entries_read (e ∷ es) rest = ap (λ (l : List Entry). e ∷ l) (entries_read es rest)

pub page_read : (x : Page) (rest : List ℕ) → length x.entries ≡ page_entries → page_of (words_of_page x ++ rest) ≡ x
unfolding page_of words_of_page
page_read x rest h =
    let p : entries_of page_entries (words_of_entries x.entries ++ rest) ≡ x.entries = rw (← h) (entries_read x.entries rest) in
    λ i. record { level = x.level; count = x.count; entries = p i }

-- what was read is written: the first words of a list, one by one
unfoldable pub spread : ℕ → ℕ → List ℕ → List ℕ
spread zero k w = []
spread (suc n) k w = get_or w k 0 ∷ spread n (suc k) w

pub spread_take : (n k : ℕ) (w : List ℕ) → k + n ≤ length w → spread n k w ≡ take n (drop k w)
unfolding spread
spread_take zero k w h = refl
spread_take (suc n) k w h =
    ap (λ (l : List ℕ). get_or w k 0 ∷ l) (spread_take n (suc k) w (omega arith))
    ∙ sym (ap (take (suc n)) (drop-cons w k 0 (omega arith)))

pub entry_written : (w : List ℕ) → entry_words ≤ length w → words_of_entry (entry_at w 0) ≡ take entry_words w
unfolding spread words_of_entry words_of_box entry_at box_at
entry_written w h = spread_take entry_words 0 w h

pub entries_written : (n : ℕ) (w : List ℕ) → n * entry_words ≤ length w → words_of_entries (entries_of n w) ≡ take (n * entry_words) w
unfolding words_of_entries entries_of
entries_written zero w h = refl
entries_written (suc n) w h =
    let e : suc n * entry_words ≡ entry_words + n * entry_words = omega arith in
    let l : length (drop entry_words w) ≡ _ = length-drop entry_words w in
    rw (entry_written w (omega arith), entries_written n (drop entry_words w) (omega arith), e) (sym (take-add entry_words (n * entry_words) w))

pub page_written : (w : List ℕ) → page_words ≤ length w → words_of_page (page_of w) ≡ take page_words w
unfolding words_of_page page_of spread
page_written w h =
    let l : length (drop 2 w) ≡ _ = length-drop 2 w in
    ap (λ (r : List ℕ). get_or w 0 0 ∷ get_or w 1 0 ∷ r) (entries_written page_entries (drop 2 w) (omega arith))
    ∙ ap (λ (r : List ℕ). r ++ take 168 (drop 2 w)) (spread_take 2 0 w (omega arith))
    ∙ sym (take-add 2 168 w)

-- only a page's own words count
pub page_front : (w rest : List ℕ) → page_words ≤ length w → page_of (take page_words w ++ rest) ≡ page_of w
page_front w rest h = rw (← page_written w h) (page_read (page_of w) rest (page_of_eight w))

-- page p of a table that has it: its words where they lie
pub level_in : (t : List ℕ) (p : ℕ) → (page_at t p).level ≡ level_at t p
unfolding page_at page_of
level_in t p = get_or-drop (p * page_words) t 0 0 ∙ ap (λ (k : ℕ). get_or t k 0) (add-zero (p * page_words))

pub count_in : (t : List ℕ) (p : ℕ) → (page_at t p).count ≡ count_at t p
unfolding page_at page_of
count_in t p = get_or-drop (p * page_words) t 1 0

pub entry_nth : (n i : ℕ) (w : List ℕ) → i < n → get_or (entries_of n w) i zero_entry ≡ entry_at w (i * entry_words)
unfolding entries_of
entry_nth zero i w h = absurd (not-suc-le-zero h)
entry_nth (suc n) zero w h = refl
entry_nth (suc n) (suc i) w h =
    let e : suc i * entry_words ≡ entry_words + i * entry_words = omega arith in
    entry_nth n i (drop entry_words w) (le_of_suc-le-suc h) ∙ entry_drop w entry_words (i * entry_words) ∙ ap (entry_at w) (sym e)

pub entry_in_lem : (t : List ℕ) (p i : ℕ) → i < page_entries → get_or (page_at t p).entries i zero_entry ≡ entry_in t p i
unfolding page_at page_of
entry_in_lem t p i h =
    let e : p * page_words + 2 + i * entry_words ≡ entry_start p i = omega arith in
    entry_nth page_entries i (drop 2 (drop (p * page_words) t)) h
    ∙ ap (λ (w : List ℕ). entry_at w (i * entry_words)) (drop-drop 2 (p * page_words) t)
    ∙ entry_drop t (p * page_words + 2) (i * entry_words)
    ∙ ap (entry_at t) e

-- what was put is read; the length stays; a page put back unchanged changes nothing
pub put_length : (t : List ℕ) (p : ℕ) (x : Page) → InTable t p → length x.entries ≡ page_entries → length (put_page t p x) ≡ length t
unfolding put_page
put_length t p x h e =
    simp (length-append, length-take, length-drop, length_page x e) (omega arith)

pub put_read : (t : List ℕ) (p : ℕ) (x : Page) → InTable t p → length x.entries ≡ page_entries → page_at (put_page t p x) p ≡ x
unfolding put_page page_at
put_read t p x h e =
    let l : length (take (p * page_words) t) ≡ p * page_words = length-take-le (p * page_words) t (omega arith) in
    rw (drop_at (take (p * page_words) t) (words_of_page x ++ drop (p * page_words + page_words) t) (p * page_words) l)
    (page_read x (drop (p * page_words + page_words) t) e)

pub put_same : (t : List ℕ) (p : ℕ) → InTable t p → put_page t p (page_at t p) ≡ t
unfolding put_page page_at
put_same t p h =
    let k = p * page_words in
    let l : length (drop (p * page_words) t) ≡ _ = length-drop (p * page_words) t in
    ap (λ (w : List ℕ). take (p * page_words) t ++ (w ++ drop (p * page_words + page_words) t)) (page_written (drop (p * page_words) t) (omega arith))
    ∙ ap (λ (w : List ℕ). take (p * page_words) t ++ (take page_words (drop (p * page_words) t) ++ w)) (sym (drop-drop page_words (p * page_words) t))
    ∙ ap (λ (w : List ℕ). take (p * page_words) t ++ w) (take-append-drop page_words (drop (p * page_words) t))
    ∙ take-append-drop (p * page_words) t

-- the table as a list of pages
length_cut : (n : ℕ) (t : List ℕ) → length (cut_pages n t) ≡ n
unfolding cut_pages
length_cut zero t = refl
length_cut (suc n) t = ap suc (length_cut n (drop page_words t))

pub pages_length : (t : List ℕ) → length (pages_of t) ≡ pages_in t
unfolding pages_of
pages_length t = length_cut (pages_in t) t

cut_at : (n p : ℕ) (t : List ℕ) → p < n → get_or (cut_pages n t) p free_page ≡ page_at t p
unfolding cut_pages page_at
cut_at zero p t h = absurd (not-suc-le-zero h)
cut_at (suc n) zero t h = refl
cut_at (suc n) (suc p) t h =
    let e : page_words + p * page_words ≡ suc p * page_words = omega arith in
    cut_at n p (drop page_words t) (le_of_suc-le-suc h)
    ∙ ap page_of (drop-drop (p * page_words) page_words t ∙ ap (λ (k : ℕ). drop k t) e)

pub pages_at : (t : List ℕ) (p : ℕ) → p < pages_in t → get_or (pages_of t) p free_page ≡ page_at t p
unfolding pages_of
pages_at t p h = cut_at (pages_in t) p t h

-- to put a page after the first is to put it into the rest
put_later : (t : List ℕ) (p : ℕ) (x : Page) → put_page t (suc p) x ≡ take page_words t ++ put_page (drop page_words t) p x
unfolding put_page
put_later t p x =
    let e : suc p * page_words ≡ page_words + p * page_words = omega arith in
    let f : suc p * page_words + page_words ≡ page_words + (p * page_words + page_words) = omega arith in
    ap (λ (k : ℕ). take k t ++ (words_of_page x ++ drop (suc p * page_words + page_words) t)) e
    ∙ ap (λ (k : ℕ). take (page_words + p * page_words) t ++ (words_of_page x ++ drop k t)) f
    ∙ ap (λ (w : List ℕ). w ++ (words_of_page x ++ drop (page_words + (p * page_words + page_words)) t)) (take-add page_words (p * page_words) t)
    ∙ append_assoc (take page_words t) (take (p * page_words) (drop page_words t)) (words_of_page x ++ drop (page_words + (p * page_words + page_words)) t)
    ∙ ap (λ (w : List ℕ). take page_words t ++ (take (p * page_words) (drop page_words t) ++ (words_of_page x ++ w))) (sym (drop-drop (p * page_words + page_words) page_words t))

cut_first : (n : ℕ) (t : List ℕ) (x : Page) → length x.entries ≡ page_entries → cut_pages (suc n) (put_page t 0 x) ≡ x ∷ cut_pages n (drop page_words t)
unfolding cut_pages put_page
cut_first n t x e = rw (page_read x (drop page_words t) e, drop_at (words_of_page x) (drop page_words t) page_words (length_page x e)) refl

cut_put : (n p : ℕ) (t : List ℕ) (x : Page) → n * page_words ≤ length t → p < n → length x.entries ≡ page_entries → cut_pages n (put_page t p x) ≡ set (cut_pages n t) p x
unfolding cut_pages
cut_put zero p t x f h e = absurd (not-suc-le-zero h)
cut_put (suc n) zero t x f h e = cut_first n t x e
cut_put (suc n) (suc p) t x f h e =
    let l : length (drop page_words t) ≡ _ = length-drop page_words t in
    let m : length (take page_words t) ≡ page_words = length-take-le page_words t (omega arith) in
    rw (put_later t p x, page_front t (put_page (drop page_words t) p x) (omega arith), drop_at (take page_words t) (put_page (drop page_words t) p x) page_words m)
    (ap (λ (l : List Page). page_of t ∷ l) (cut_put n p (drop page_words t) x (omega arith) (le_of_suc-le-suc h) e))

pub put_pages : (t : List ℕ) (p : ℕ) (x : Page) → InTable t p → length x.entries ≡ page_entries → pages_of (put_page t p x) ≡ set (pages_of t) p x
unfolding pages_of
put_pages t p x h e =
    let l : length (put_page t p x) ≡ length t = put_length t p x h e in
    rw l (cut_put (pages_in t) p t x (omega arith) (in_pages t p h) e)

-- other pages stay
pub put_other : (t : List ℕ) (p q : ℕ) (x : Page) → InTable t p → InTable t q → (q ≡ p → ⊥) → length x.entries ≡ page_entries → page_at (put_page t p x) q ≡ page_at t q
put_other t p q x h k d e =
    let l : length (put_page t p x) ≡ length t = put_length t p x h e in
    let m : q < pages_in t = in_pages t q k in
    let n : q < pages_in (put_page t p x) = rw l m in
    sym (pages_at (put_page t p x) q n)
    ∙ ap (λ (l : List Page). get_or l q free_page) (put_pages t p x h e)
    ∙ get_or-set_other (pages_of t) p q x free_page d
    ∙ pages_at t q m

-- the pages of a table that fits are all of its words
table_cut : (n : ℕ) (t : List ℕ) → n * page_words ≤ length t → table_of (cut_pages n t) ≡ take (n * page_words) t
unfolding cut_pages table_of
table_cut zero t h = refl
table_cut (suc n) t h =
    let e : suc n * page_words ≡ page_words + n * page_words = omega arith in
    let l : length (drop page_words t) ≡ _ = length-drop page_words t in
    rw (page_written t (omega arith), table_cut n (drop page_words t) (omega arith), e) (sym (take-add page_words (n * page_words) t))

pub table_pages : (t : List ℕ) → table_fits t ≡ true → table_of (pages_of t) ≡ t
unfolding pages_of
table_pages t e =
    let f = fitting t e in
    table_cut (pages_in t) t (omega arith) ∙ take_all (pages_in t * page_words) t (omega arith)

pub pages_determine : (t u : List ℕ) → table_fits t ≡ true → table_fits u ≡ true → pages_of t ≡ pages_of u → t ≡ u
pages_determine t u e f h = sym (table_pages t e) ∙ ap table_of h ∙ table_pages u f

-- and the words of whole pages are those pages
pub data Whole : List Page → Type 0 where
  none : Whole []
  more : {x : Page} {xs : List Page} → length x.entries ≡ page_entries → Whole xs → Whole (x ∷ xs)

pub table_length : (xs : List Page) → Whole xs → length (table_of xs) ≡ length xs * page_words
unfolding table_of
table_length [] none = refl
table_length (x ∷ xs) (more e h) = omega (arith, length-append (words_of_page x) (table_of xs), length_page x e, table_length xs h)

cut_table : (xs : List Page) → Whole xs → cut_pages (length xs) (table_of xs) ≡ xs
unfolding cut_pages table_of
cut_table [] none = refl
cut_table (x ∷ xs) (more e h) =
    rw (page_read x (table_of xs) e, drop_at (words_of_page x) (table_of xs) page_words (length_page x e)) (ap (λ (l : List Page). x ∷ l) (cut_table xs h))

pub pages_table : (xs : List Page) → Whole xs → pages_of (table_of xs) ≡ xs
unfolding pages_of
pages_table xs h =
    let e : pages_in (table_of xs) ≡ length xs = omega (arith, table_length xs h) in
    ap (λ (n : ℕ). cut_pages n (table_of xs)) e ∙ cut_table xs h

-- only the length decides whether a table fits
pub fits_alike : (t u : List ℕ) → length u ≡ length t → table_fits u ≡ table_fits t
fits_alike t u e = ap (λ (n : ℕ). leb 1 (n / page_words) && leb (n / page_words) most_pages && eqb (n / page_words * page_words) n) e

pub put_fits : (t : List ℕ) (p : ℕ) (x : Page) → InTable t p → length x.entries ≡ page_entries → table_fits (put_page t p x) ≡ table_fits t
put_fits t p x h e = fits_alike t (put_page t p x) (put_length t p x h e)

-- to free a page is to put the all-zero page
pub free_words : words_of_page free_page ≡ replicate page_words 0
unfolding words_of_page words_of_entries words_of_entry words_of_box
free_words = refl
