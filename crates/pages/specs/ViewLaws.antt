-- Laws of a page and of an entry where they lie: the words of each are its own, whatever stands around them.
use Rattle.std.specs.Prelude.{ℕ, Some, None, List, [], ◌∷◌, zero, suc, ◌+◌, ◌*◌, ◌-◌, ◌≤◌, ◌<◌, min, ◌≡◌, refl, length, get_or, take, drop}
use Rattle.std.specs.List.{slice_get}
use Rattle.std.proofs.Common.{sym, ap, ◌∙◌, arith, add-zero, length-take, length-drop, take_all, append-nil, drop-drop, drop_of_length-le, get_or-take, ⊎_elim}
use Rattle.std.proofs.Math.Seq.{drop-append-add}
use Rattle.std.proofs.lemmas.List.{ext_get_or, take_rest}
use Rattle.ground.specs.Tests.{below_or_not}
use Rattle.std.proofs.lemmas.Option.{slice_get-get_or, slice_get_past}
use Rattle.pages.specs.Layout.{page_words, entry_words, page_entries, pages_in, pages_of, page_of, page_at, entry_at, box_at, zero_entry, free_page, words_of_box, words_of_entry, words_of_entries, words_of_page}
use Rattle.pages.specs.LayoutLaws.{entry_drop, entry_written, entries_written, entry_nth, length_entry, page_written, page_front, page_of_eight, pages_at, pages_length}
use Rattle.pages.specs.Summary.{in_use}
use Rattle.pages.specs.declared.Entry.{Entry}
use Rattle.pages.specs.declared.Page.{Page}

-- an entry cut off a list of words
entry_read : (e : Entry) → entry_at (words_of_entry e) 0 ≡ e
unfolding entry_at box_at words_of_entry words_of_box
entry_read e = refl

entry_cut : (w : List ℕ) (k : ℕ) → k + entry_words ≤ length w → entry_at (take (k + entry_words - k) (drop k w)) 0 ≡ entry_at w k
entry_cut w k h =
    let n : k + entry_words - k ≡ entry_words = omega arith in
    ap (λ m. entry_at (take m (drop k w)) 0) n
    ∙ ap (λ l. entry_at l 0) (sym (entry_written (drop k w) (omega (arith, length-drop k w))))
    ∙ entry_read (entry_at (drop k w) 0)
    ∙ entry_drop w k 0
    ∙ ap (entry_at w) (add-zero k)

pub entry_of_page : (w : List ℕ) (i : ℕ) → length w ≡ page_words → i < page_entries
    → entry_at (take (2 + i * entry_words + entry_words - (2 + i * entry_words)) (drop (2 + i * entry_words) w)) 0 ≡ get_or (page_of w).entries i zero_entry
unfolding page_of
entry_of_page w i h k =
    entry_cut w (2 + i * entry_words) (omega arith) ∙ sym (entry_nth page_entries i (drop 2 w) k ∙ entry_drop w 2 (i * entry_words))

-- a page cut off a table
pub page_cut : (t : List ℕ) (p : ℕ) → p < pages_in t → page_of (take (p * page_words + page_words - p * page_words) (drop (p * page_words) t)) ≡ page_at t p
unfolding page_at
page_cut t p h =
    let n : p * page_words + page_words - p * page_words ≡ page_words = omega arith in
    let u = drop (p * page_words) t in
    ap (λ m. page_of (take m u)) n
    ∙ ap page_of (sym (append-nil (take page_words u)))
    ∙ page_front u [] (omega (arith, length-drop (p * page_words) t))

pub page_got : (t : List ℕ) (p : ℕ) → p < pages_in t → slice_get (pages_of t) p ≡ Some (page_at t p)
page_got t p h = slice_get-get_or (pages_of t) p free_page (omega (arith, pages_length t)) ∙ ap Some (pages_at t p h)

pub page_past : (t : List ℕ) (p : ℕ) → pages_in t ≤ p → slice_get (pages_of t) p ≡ None
page_past t p h = slice_get_past (pages_of t) p (omega (arith, pages_length t))

-- how many entries are in use
pub used_length : (w : List ℕ) → length (in_use (page_of w)) ≡ min (page_of w).count page_entries
used_length w = length-take (page_of w).count (page_of w).entries ∙ ap (min (page_of w).count) (page_of_eight w)

-- all words of a page, and those of its entries after the first n
pub page_whole : (w : List ℕ) → length w ≡ page_words → w ≡ words_of_page (page_of w)
page_whole w h = sym (page_written w (omega arith) ∙ take_all page_words w (omega arith))

entries_left : (n : ℕ) (es : List Entry) → drop (n * entry_words) (words_of_entries es) ≡ words_of_entries (drop n es)
unfolding words_of_entries
entries_left zero es = refl
entries_left (suc n) [] = drop_of_length-le [] {i = suc n * entry_words} (omega arith) ∙ sym (drop_of_length-le [] {i = suc n} (omega arith))
entries_left (suc n) (e ∷ es) =
    let m : suc n * entry_words ≡ length (words_of_entry e) + n * entry_words = omega (arith, length_entry e) in
    rw (m, drop-append-add (words_of_entry e) (words_of_entries es) (n * entry_words)) (entries_left n es)

entries_whole : (w : List ℕ) → length w ≡ page_words → words_of_entries (page_of w).entries ≡ drop 2 w
unfolding page_of
entries_whole w h =
    let l = length-drop 2 w in
    entries_written page_entries (drop 2 w) (omega arith) ∙ take_all (page_entries * entry_words) (drop 2 w) (omega arith)

drop_past : (n m : ℕ) (es : List Entry) → m ≡ min n (length es) → drop m es ≡ drop n es
drop_past n m es e =
    ⊎_elim (λ (h : n < length es). let k : m ≡ n = omega arith in rw k)
    (λ (h : length es ≤ n). drop_of_length-le es {i = m} (omega arith) ∙ sym (drop_of_length-le es {i = n} h))
    (below_or_not n (length es))

pub unused_words : (w : List ℕ) (n : ℕ) → length w ≡ page_words → n ≡ length (in_use (page_of w))
    → take (length w - (2 + n * entry_words)) (drop (2 + n * entry_words) w) ≡ words_of_entries (drop (page_of w).count (page_of w).entries)
unused_words w n h e =
    let x = page_of w in
    take_rest w (2 + n * entry_words)
    ∙ sym (drop-drop (n * entry_words) 2 w)
    ∙ ap (drop (n * entry_words)) (sym (entries_whole w h))
    ∙ entries_left n x.entries
    ∙ ap words_of_entries (drop_past x.count n x.entries (e ∙ length-take x.count x.entries))

-- the entries in use are the first of the page's
pub used_entry : (x : Page) (i : ℕ) → i < length (in_use x) → get_or (in_use x) i zero_entry ≡ get_or x.entries i zero_entry
used_entry x i h = get_or-take x.count x.entries i zero_entry (omega (arith, length-take x.count x.entries))

-- a page read entry by entry
pub page_read_whole : (x : Page) (l n : ℕ) (es : List Entry) → l ≡ x.level → n ≡ x.count → length es ≡ length x.entries
    → ((i : ℕ) → i < length es → get_or es i zero_entry ≡ get_or x.entries i zero_entry) → ◌≡◌ {A = Page} (record { level = l; count = n; entries = es }) x
page_read_whole x l n es pl pn long each =
    let same = ext_get_or zero_entry es x.entries long each in
    λ i. record { level = pl i; count = pn i; entries = same i }
