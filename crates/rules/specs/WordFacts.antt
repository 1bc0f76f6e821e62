-- Entries and their words: words determine an entry, and entries whose words are 0 are zero entries.
use Rattle.std.specs.Prelude.{Bool, true, List, [], ◌∷◌, ◌++◌, ◌≡◌, refl, ℕ, zero, suc, ◌-◌, ◌≤◌, eqb, length, get_or, drop, replicate}
use Rattle.std.proofs.Common.{sym, ap, ap₂, ◌∙◌, arith, eqb-true, eq-eqb, length-take, length-drop, take-append-drop}
use Rattle.ground.specs.Tests.{both, joint}
use Rattle.pages.specs.Layout.{page_entries, zero_entry, entries_of, words_of_box, words_of_entry, words_of_entries, words_of_page, free_page}
use Rattle.pages.specs.LayoutLaws.{entries_read}
use Rattle.pages.specs.Summary.{in_use}
use Rattle.pages.specs.Words.{every, all_zero, same_words}
use Rattle.pages.specs.declared.Entry.{Entry}
use Rattle.pages.specs.declared.Page.{Page}
use Rattle.split.specs.Split.{page_from}
use Rattle.split.specs.SplitLaws.{Each}

pub words_determine : (e f : Entry) → words_of_entry e ≡ words_of_entry f → e ≡ f
unfolding words_of_entries
words_determine e f p =
    let read : (x : Entry) → get_or (entries_of 1 ((words_of_entry x ++ []) ++ [])) 0 zero_entry ≡ x = λ x. ap (λ (l : List Entry). get_or l 0 zero_entry) (entries_read (x ∷ []) []) in
    sym (read e) ∙ ap (λ (w : List ℕ). get_or (entries_of 1 ((w ++ []) ++ [])) 0 zero_entry) p ∙ read f

pub same_words_self : (w : List ℕ) → same_words w w ≡ true
unfolding same_words
same_words_self [] = refl
same_words_self (x ∷ w) = joint (eqb x x) (same_words w w) (eq-eqb x x refl) (same_words_self w)

every_append : (f : ℕ → Bool) (a b : List ℕ) → every f (a ++ b) ≡ true → (every f a ≡ true) × (every f b ≡ true)
unfolding every
every_append f [] b p = (refl, p)
every_append f (x ∷ a) b p =
    let h = both (f x) (every f (a ++ b)) p in
    let k = every_append f a b h.1 in
    (joint (f x) (every f a) h.0 k.0, k.1)

append_every : (f : ℕ → Bool) (a b : List ℕ) → every f a ≡ true → every f b ≡ true → every f (a ++ b) ≡ true
unfolding every
append_every f [] b p q = q
append_every f (x ∷ a) b p q = let h = both (f x) (every f a) p in joint (f x) (every f (a ++ b)) h.0 (append_every f a b h.1 q)

all_zero_is : (w : List ℕ) → all_zero w ≡ true → w ≡ replicate (length w) 0
unfolding every
all_zero_is [] p = refl
all_zero_is (x ∷ w) p =
    let h = both (eqb x 0) (every (λ y. eqb y 0) w) p in
    ap₂ (λ (a : ℕ) (l : List ℕ). a ∷ l) (eqb-true x 0 h.0) (all_zero_is w h.1)

zero_entry_lem : (e : Entry) → all_zero (words_of_entry e) ≡ true → e ≡ zero_entry
unfolding words_of_entry words_of_box
zero_entry_lem e p = words_determine e zero_entry (all_zero_is (words_of_entry e) p)

pub zero_entries : (es : List Entry) → all_zero (words_of_entries es) ≡ true → es ≡ replicate (length es) zero_entry
unfolding words_of_entries
zero_entries [] p = refl
zero_entries (e ∷ es) p =
    let h = every_append (λ y. eqb y 0) (words_of_entry e) (words_of_entries es) p in
    ap₂ (λ (a : Entry) (l : List Entry). a ∷ l) (zero_entry_lem e h.0) (zero_entries es h.1)

pub zeros_zero : (k : ℕ) → all_zero (words_of_entries (replicate k zero_entry)) ≡ true
unfolding words_of_entries words_of_entry words_of_box every
zeros_zero zero = refl
zeros_zero (suc k) = append_every (λ y. eqb y 0) (words_of_entry zero_entry) (words_of_entries (replicate k zero_entry)) refl (zeros_zero k)

pub free_zero : all_zero (words_of_page free_page) ≡ true
unfolding words_of_page every
free_zero = zeros_zero 8

-- a page whose unused entries are 0 is the page of its entries in use
pub page_form : (x : Page) (level : ℕ) → x.level ≡ level → length x.entries ≡ page_entries → x.count ≤ page_entries → all_zero (words_of_entries (drop x.count x.entries)) ≡ true → x ≡ page_from level (in_use x)
unfolding page_from
page_form x level l n c z =
    let a : length (in_use x) ≡ x.count = length-take x.count x.entries ∙ omega arith in
    let k : length (drop x.count x.entries) ≡ page_entries - length (in_use x) = length-drop x.count x.entries ∙ omega arith in
    let d : drop x.count x.entries ≡ replicate (page_entries - length (in_use x)) zero_entry =
    zero_entries (drop x.count x.entries) z ∙ ap (λ (j : ℕ). replicate j zero_entry) k in
    let e : x.entries ≡ in_use x ++ replicate (page_entries - length (in_use x)) zero_entry = sym (take-append-drop x.count x.entries) ∙ ap (λ (r : List Entry). in_use x ++ r) d in
    λ i. record { level = l i; count = sym a i; entries = e i }

pub in_use_length : (x : Page) → length x.entries ≡ page_entries → x.count ≤ page_entries → length (in_use x) ≡ x.count
in_use_length x n c = length-take x.count x.entries ∙ omega arith

-- tests of all entries, as facts and back
pub every_each : (f : Entry → Bool) (es : List Entry) → every f es ≡ true → Each (λ e. f e ≡ true) es
unfolding every
every_each f [] p = tt
every_each f (e ∷ es) p = let h = both (f e) (every f es) p in (h.0, every_each f es h.1)

pub each_every : (f : Entry → Bool) (es : List Entry) → Each (λ e. f e ≡ true) es → every f es ≡ true
unfolding every
each_every f [] p = refl
each_every f (e ∷ es) p = joint (f e) (every f es) p.0 (each_every f es p.1)
