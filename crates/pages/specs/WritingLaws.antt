-- What the writers leave in a slice, over plain lists.
use Rattle.std.specs.Prelude.{List, [], ◌∷◌, ◌++◌, map, ◌≡◌, refl, ℕ, zero, suc, ◌+◌, ◌*◌, ◌-◌, ◌<◌, length, get_or, take, drop, set, replicate}
use Rattle.std.proofs.Common.{append-nil, append_assoc, sym, ap, ◌∙◌, arith, add-one, length-take, length-drop, drop_of_length-le, take_at, drop_at, drop-drop, take-suc, take_all, length-take-le}
use Rattle.std.proofs.Math.Path.{subst⁻¹}
use Rattle.std.proofs.lemmas.List.{length-map}
use Rattle.std.proofs.lemmas.List.Edits.{sets, sets-eq}
use Rattle.std.proofs.Math.Seq.{take-append-add, drop-append-add}
use Rattle.pages.specs.declared.Entry.{Entry}
use Rattle.pages.specs.declared.Page.{Page}
use Rattle.pages.specs.Layout.{page_words, entry_words, page_entries, words_of_box, words_of_entry, words_of_entries, words_of_page, zero_entry, free_page, with_entry, put_page, page_of, page_at, entries_of}
use Rattle.pages.specs.Facts.{InTable}
use Rattle.pages.specs.LayoutLaws.{entries_written, length_entries_of, page_front, length_entry, length_entries, spread, spread_take, free_words}

-- the length of an array of structs is that of what it stands for
pub unmapped {ℓ ℓ'} : {A : Type ℓ} {B : Type ℓ'} (f : A → B) (l : List A) (n : ℕ) → length (map f l) ≡ n → length l ≡ n
unmapped f l n h = sym (length-map l f) ∙ h

-- every word stored, one after the other
pub stored : (vs s : List ℕ) → length s ≡ length vs → sets s 0 vs ≡ vs
stored vs s h =
    let e : 0 + length vs ≡ length vs = omega arith in
    sets-eq vs s 0 (omega arith) ∙ ap (λ (k : ℕ). vs ++ drop k s) e ∙ ap (λ (l : List ℕ). vs ++ l) (drop_of_length-le s {i = length vs} (omega arith)) ∙ append-nil vs

-- a part that was lent comes back as other words: k of them, from word a on
abbrev pub placed : ℕ → ℕ → List ℕ → List ℕ → List ℕ
placed a k s w = take a s ++ (w ++ drop k (drop a s))

-- a list of known length, spelled out
spelled : (n : ℕ) (s : List ℕ) → length s ≡ n → s ≡ spread n 0 s
spelled n s h = sym (spread_take n 0 s (omega arith) ∙ take_all n s (omega arith))

-- the three numbers of an entry stored, and its three boxes placed
pub entry_stored : (s : List ℕ) (e : Entry) (a b c : List ℕ) → length s ≡ entry_words → a ≡ words_of_box e.place → b ≡ words_of_box e.strongest → c ≡ words_of_box e.union
    → placed 15 6 (placed 9 6 (placed 0 6 (set (set (set s 6 e.gust) 7 e.weakest) 8 e.child) a) b) c ≡ words_of_entry e
unfolding spread words_of_entry words_of_box
entry_stored s e a b c h pa pb pc =
    rw (pa, pb, pc)
    (subst⁻¹ (λ (z : List ℕ). placed 15 6 (placed 9 6 (placed 0 6 (set (set (set z 6 e.gust) 7 e.weakest) 8 e.child) (words_of_box e.place)) (words_of_box e.strongest)) (words_of_box e.union) ≡ words_of_entry e)
    (spelled entry_words s h) refl)

-- entries written from the front
words_append : (es fs : List Entry) → words_of_entries (es ++ fs) ≡ words_of_entries es ++ words_of_entries fs
unfolding words_of_entries
words_append [] fs = refl
words_append (e ∷ es) fs = ap (λ (l : List ℕ). words_of_entry e ++ l) (words_append es fs) ∙ sym (append_assoc (words_of_entry e) (words_of_entries es) (words_of_entries fs))

words_one : (e : Entry) → words_of_entries (e ∷ []) ≡ words_of_entry e
unfolding words_of_entries
words_one e = append-nil (words_of_entry e)

pub entries_more : (es : List Entry) (s s₀ w : List ℕ) (i : ℕ) → i < length es → s ≡ words_of_entries (take i es) ++ drop (i * entry_words) s₀ → w ≡ words_of_entry (get_or es i zero_entry)
    → placed (i * entry_words) (i * entry_words + entry_words - i * entry_words) s w ≡ words_of_entries (take (i + 1) es) ++ drop ((i + 1) * entry_words) s₀
entries_more es s s₀ w i h e pw =
    let n = i * entry_words in
    let f = words_of_entries (take i es) in
    let l : length (words_of_entries (take i es)) ≡ i * entry_words = omega (arith, length_entries (take i es), length-take-le i es (omega arith)) in
    let k : i * entry_words + entry_words - i * entry_words ≡ entry_words = omega arith in
    let m : i * entry_words + entry_words ≡ (i + 1) * entry_words = omega arith in
    rw (k, e, take_at f (drop n s₀) n l, drop_at f (drop n s₀) n l, drop-drop entry_words n s₀, m, pw, add-one i, take-suc es i zero_entry h, words_append (take i es) (get_or es i zero_entry ∷ []), words_one (get_or es i zero_entry))
    (sym (append_assoc f (words_of_entry (get_or es i zero_entry)) (drop (suc i * entry_words) s₀)))

-- a page placed is a page put
pub page_placed : (t : List ℕ) (p : ℕ) (x : Page) (w : List ℕ) → w ≡ words_of_page x → placed (p * page_words) (p * page_words + page_words - p * page_words) t w ≡ put_page t p x
unfolding put_page
page_placed t p x w e =
    let k : p * page_words + page_words - p * page_words ≡ page_words = omega arith in
    rw (e, k, drop-drop page_words (p * page_words) t) refl

zeros_of : (n : ℕ) (w : List ℕ) → n ≡ page_words → w ≡ replicate n 0 → w ≡ words_of_page free_page
zeros_of n w h e = e ∙ ap (λ (m : ℕ). replicate m 0) h ∙ sym free_words

pub zeros_placed : (t : List ℕ) (p : ℕ) (w : List ℕ) → InTable t p → w ≡ replicate (length (take (p * page_words + page_words - p * page_words) (drop (p * page_words) t))) 0
    → placed (p * page_words) (p * page_words + page_words - p * page_words) t w ≡ put_page t p free_page
zeros_placed t p w h e =
    page_placed t p free_page w (zeros_of (length (take (p * page_words + page_words - p * page_words) (drop (p * page_words) t))) w (simp (length-take, length-drop) (omega arith)) e)

-- the level and the count stored, and the entries placed
pub page_stored : (s : List ℕ) (x : Page) (w : List ℕ) → length s ≡ page_words → w ≡ words_of_entries x.entries → placed 2 168 (set (set s 0 x.level) 1 x.count) w ≡ words_of_page x
unfolding words_of_page
page_stored [] x w h e = absurd (omega arith)
page_stored (a ∷ []) x w h e = absurd (omega arith)
page_stored (a ∷ b ∷ r) x w h e =
    ap (λ (l : List ℕ). x.level ∷ x.count ∷ (l ++ drop 168 r)) e
    ∙ ap (λ (l : List ℕ). x.level ∷ x.count ∷ (words_of_entries x.entries ++ l)) (drop_of_length-le r {i = 168} (omega arith))
    ∙ ap (λ (l : List ℕ). x.level ∷ x.count ∷ l) (append-nil (words_of_entries x.entries))

-- one entry placed among the others
entries_set : (es : List Entry) (i : ℕ) (e : Entry) → i < length es → placed (i * entry_words) entry_words (words_of_entries es) (words_of_entry e) ≡ words_of_entries (set es i e)
unfolding words_of_entries
entries_set [] i e h = absurd (omega arith)
entries_set (x ∷ es) zero e h = ap (λ (l : List ℕ). words_of_entry e ++ l) (drop_at (words_of_entry x) (words_of_entries es) entry_words (length_entry x))
entries_set (x ∷ es) (suc i) e h =
    let a = words_of_entry x in
    let b = words_of_entries es in
    let k = i * entry_words in
    let m : suc i * entry_words ≡ length (words_of_entry x) + i * entry_words = omega (arith, length_entry x) in
    rw (m, take-append-add a b k, drop-append-add a b k) (append_assoc a (take k b) (words_of_entry e ++ drop entry_words (drop k b)) ∙ ap (λ (l : List ℕ). a ++ l) (entries_set es i e (omega arith)))

-- an entry and the count stored in a page
pub entry_placed : (s : List ℕ) (n i : ℕ) (e : Entry) (w : List ℕ) → length s ≡ page_words → i < page_entries → w ≡ words_of_entry e
    → placed (2 + i * entry_words) (2 + i * entry_words + entry_words - (2 + i * entry_words)) (set s 1 n) w ≡ words_of_page (with_entry (page_of s) n i e)
unfolding words_of_page page_of
entry_placed [] n i e w h l f = absurd (omega arith)
entry_placed (a ∷ []) n i e w h l f = absurd (omega arith)
entry_placed (a ∷ b ∷ r) n i e w h l f =
    let k : 2 + i * entry_words + entry_words - (2 + i * entry_words) ≡ entry_words = omega arith in
    let m : 2 + i * entry_words ≡ suc (suc (i * entry_words)) = omega arith in
    let whole : words_of_entries (entries_of page_entries r) ≡ r = entries_written page_entries r (omega arith) ∙ take_all (page_entries * entry_words) r (omega arith) in
    let set_in = entries_set (entries_of page_entries r) i e (omega (arith, length_entries_of page_entries r)) in
    rw (k, m, f) (ap (λ (l : List ℕ). a ∷ n ∷ placed (i * entry_words) entry_words l (words_of_entry e)) (sym whole) ∙ ap (λ (l : List ℕ). a ∷ n ∷ l) set_in)

-- and in the table
pub place_put : (t : List ℕ) (p n i : ℕ) (e : Entry) (w : List ℕ) → InTable t p → w ≡ words_of_page (with_entry (page_of (take (p * page_words + page_words - p * page_words) (drop (p * page_words) t))) n i e)
    → placed (p * page_words) (p * page_words + page_words - p * page_words) t w ≡ put_page t p (with_entry (page_at t p) n i e)
unfolding page_at
place_put t p n i e w h f =
    let k : p * page_words + page_words - p * page_words ≡ page_words = omega arith in
    let l : length (drop (p * page_words) t) ≡ _ = length-drop (p * page_words) t in
    let u = drop (p * page_words) t in
    let same : page_of (take (p * page_words + page_words - p * page_words) u) ≡ page_of u = ap (λ (m : ℕ). page_of (take m u)) k ∙ ap page_of (sym (append-nil (take page_words u))) ∙ page_front u [] (omega arith) in
    page_placed t p (with_entry (page_of u) n i e) w (f ∙ ap (λ (x : Page). words_of_page (with_entry x n i e)) same)
