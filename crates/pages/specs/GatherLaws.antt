-- Gathering a summary from the last entry in use to the first, over plain lists and numbers.
use Rattle.std.specs.Prelude.{Bool, true, false, cond, ◌≡◌, ℕ, suc, ◌+◌, ◌-◌, min, ◌≤◌, ◌<◌, ltb, length, get_or}
use mathlib.Core.List.{List, [], ◌∷◌}
use Rattle.std.proofs.Math.Path.{refl, sym, ap}
use Rattle.std.proofs.Common.{◌∙◌, subst, arith, length-take, length-drop, drop_of_length-le, drop-cons, get_or-take}
use Rattle.std.proofs.Math.ListN.{drop}
use Rattle.ground.specs.Boxes.{join, size}
use Rattle.ground.specs.declared.boxes.Box.{Box}
use Rattle.pages.specs.declared.Entry.{Entry}
use Rattle.pages.specs.Layout.{page_entries, zero_box, zero_entry, box_at, entry_in, count_at, page_at, words_of_box, words_of_entry}
use Rattle.pages.specs.ViewLaws.{used_entry}
use Rattle.pages.specs.declared.Page.{Page}
use Rattle.pages.specs.LayoutLaws.{count_in, entry_in_lem, page_eight}
use Rattle.pages.specs.Summary.{is_leaf, in_use, record_box, weak_gust, union_box, union_size, gust_of, covering, later_if_greater, first_greatest, least_of, summary, summary_of}

-- what is chosen by a test, and what is then done to it
pub chosen {ℓ ℓ'} : {A : Type ℓ} {B : Type ℓ'} (f : A → B) (t : Bool) (x y : A) → f (cond t x y) ≡ cond t (f x) (f y)
chosen f true x y = refl
chosen f false x y = refl

-- what the summary takes of an entry, by its offset among the entry's words
pub record_box_at : (e : Entry) (level o : ℕ) → o ≡ cond (is_leaf level) 0 9 → box_at (words_of_entry e) o ≡ record_box level e
unfolding box_at words_of_entry words_of_box
record_box_at e level o p = ap (box_at (words_of_entry e)) p ∙ chosen (box_at (words_of_entry e)) (is_leaf level) 0 9

pub union_box_at : (e : Entry) (level o : ℕ) → o ≡ cond (is_leaf level) 0 15 → box_at (words_of_entry e) o ≡ union_box level e
unfolding box_at words_of_entry words_of_box
union_box_at e level o p = ap (box_at (words_of_entry e)) p ∙ chosen (box_at (words_of_entry e)) (is_leaf level) 0 15

pub weak_gust_at : (e : Entry) (level o : ℕ) → o ≡ cond (is_leaf level) 6 7 → get_or (words_of_entry e) o 0 ≡ weak_gust level e
unfolding words_of_entry words_of_box
weak_gust_at e level o p = ap (λ n. get_or (words_of_entry e) n 0) p ∙ chosen (λ n. get_or (words_of_entry e) n 0) (is_leaf level) 6 7

-- the entries in use, where they lie
pub in_use_length : (t : List ℕ) (p : ℕ) → length (in_use (page_at t p)) ≡ min (count_at t p) page_entries
in_use_length t p = length-take (page_at t p).count (page_at t p).entries ∙ ap (λ (n : ℕ). min n (length (page_at t p).entries)) (count_in t p) ∙ ap (λ (n : ℕ). min (count_at t p) n) (page_eight t p)

pub in_use_most : (t : List ℕ) (p : ℕ) → length (in_use (page_at t p)) ≤ page_entries
in_use_most t p = omega (arith, in_use_length t p)

pub in_use_at : (t : List ℕ) (p i : ℕ) → i < length (in_use (page_at t p)) → get_or (in_use (page_at t p)) i zero_entry ≡ entry_in t p i
in_use_at t p i h =
    let l = in_use_length t p in
    let n = count_in t p in
    get_or-take (page_at t p).count (page_at t p).entries i zero_entry (omega arith) ∙ entry_in_lem t p i (omega arith)

-- what is known when the entries from place i on are gathered
pub record Gathered (es : List Entry) (level i : ℕ) (weakest gust strongest size largest : ℕ) : Type 0 where
  pub within : i < length es
  pub weakest_is : weakest ≡ least_of (weak_gust level) (drop i es)
  pub gust_is : gust ≡ gust_of (first_greatest gust_of (drop i es))
  pub strongest_within : strongest < length es
  pub strongest_is : get_or es strongest zero_entry ≡ first_greatest gust_of (drop i es)
  pub size_is : size ≡ union_size level (first_greatest (union_size level) (drop i es))
  pub largest_within : largest < length es
  pub largest_is : get_or es largest zero_entry ≡ first_greatest (union_size level) (drop i es)

module _ (es : List Entry) where
  -- the last entry alone
  last_one : (i : ℕ) → i + 1 ≡ length es → drop i es ≡ get_or es i zero_entry ∷ []
  last_one i h = drop-cons es i zero_entry (omega arith) ∙ ap (λ (l : List Entry). get_or es i zero_entry ∷ l) (drop_of_length-le es {i = suc i} (omega arith))

  pub gathered_start : (level i : ℕ) (weakest gust size : ℕ) (e : Entry) → i + 1 ≡ length es → get_or es i zero_entry ≡ e
      → weakest ≡ weak_gust level e → gust ≡ e.gust → size ≡ union_size level e → Gathered es level i weakest gust i size i
  unfolding least_of first_greatest
  gathered_start level i weakest gust size e h pe pw pg ps =
      let l = last_one i h in
      let q : drop i es ≡ e ∷ [] = l ∙ ap (λ (x : Entry). x ∷ []) pe in
      record {
        within = omega arith;
        weakest_is = rw q pw;
        gust_is = rw q pg;
        strongest_within = omega arith;
        strongest_is = rw q pe;
        size_is = rw q ps;
        largest_within = omega arith;
        largest_is = rw q pe;
      }

  -- an entry before others
  covering_more : (e : Entry) (l : List Entry) → 0 < length l → covering (e ∷ l) ≡ join e.place (covering l)
  unfolding covering
  covering_more e [] h = absurd (omega arith)
  covering_more e (f ∷ l) h = refl

  pub cover_start : (i : ℕ) (place : Box) (e : Entry) → i + 1 ≡ length es → get_or es i zero_entry ≡ e → place ≡ e.place → place ≡ covering (drop i es)
  unfolding covering
  cover_start i place e h pe pp = rw (last_one i h ∙ ap (λ (x : Entry). x ∷ []) pe) pp

  pub cover_more : (i : ℕ) (place place' : Box) (e : Entry) → i < length es → 0 < i → place ≡ covering (drop i es) → get_or es (i - 1) zero_entry ≡ e → place' ≡ join e.place place → place' ≡ covering (drop (i - 1) es)
  cover_more i place place' e w o h pe pp =
      let n : suc (i - 1) ≡ i = omega arith in
      let q : drop (i - 1) es ≡ e ∷ drop i es = drop-cons es (i - 1) zero_entry (omega arith) ∙ ap (λ (x : Entry). x ∷ drop (suc (i - 1)) es) pe ∙ ap (λ (k : ℕ). e ∷ drop k es) n in
      rw (q, covering_more e (drop i es) (omega (arith, length-drop i es))) (pp ∙ ap (λ (b : Box). join e.place b) h)

  least_more : (key : Entry → ℕ) (e : Entry) (l : List Entry) → 0 < length l → least_of key (e ∷ l) ≡ min (key e) (least_of key l)
  unfolding least_of
  least_more key e [] h = absurd (omega arith)
  least_more key e (f ∷ l) h = refl

  greatest_more : (key : Entry → ℕ) (e : Entry) (l : List Entry) → 0 < length l → first_greatest key (e ∷ l) ≡ later_if_greater key e (first_greatest key l)
  unfolding first_greatest
  greatest_more key e [] h = absurd (omega arith)
  greatest_more key e (f ∷ l) h = refl

  below_chosen : (t : Bool) (a b n : ℕ) → a < n → b < n → cond t a b < n
  below_chosen true a b n h k = h
  below_chosen false a b n h k = k

  -- a place chosen by a key, and the key there
  place_chosen : (key : Entry → ℕ) (i k m g a : ℕ) (e f : Entry) → get_or es i zero_entry ≡ e → get_or es m zero_entry ≡ f → g ≡ key e → a ≡ key f → k ≡ cond (ltb g a) m i → get_or es k zero_entry ≡ later_if_greater key e f
  place_chosen key i k m g a e f pe pf pg pa pk =
      ap (λ (n : ℕ). get_or es n zero_entry) pk
      ∙ chosen (λ (n : ℕ). get_or es n zero_entry) (ltb g a) m i
      ∙ ap (λ (x : Entry). cond (ltb g a) x (get_or es i zero_entry)) pf
      ∙ ap (λ (x : Entry). cond (ltb g a) f x) pe
      ∙ ap (λ (n : ℕ). cond (ltb n a) f e) pg
      ∙ ap (λ (n : ℕ). cond (ltb (key e) n) f e) pa

  key_chosen : (key : Entry → ℕ) (k g a : ℕ) (e f : Entry) → g ≡ key e → a ≡ key f → k ≡ cond (ltb g a) a g → k ≡ key (later_if_greater key e f)
  key_chosen key k g a e f pg pa pk =
      pk
      ∙ ap (λ (n : ℕ). cond (ltb n a) a n) pg
      ∙ ap (λ (n : ℕ). cond (ltb (key e) n) n (key e)) pa
      ∙ sym (chosen key (ltb (key e) (key f)) f e)

  -- one more entry, before those gathered
  pub gathered_more : (level i : ℕ) (weakest gust strongest size largest : ℕ) → Gathered es level i weakest gust strongest size largest → 0 < i
      → (weakest' gust' strongest' size' largest' g s : ℕ) (e : Entry) → get_or es (i - 1) zero_entry ≡ e
      → weakest' ≡ min (weak_gust level e) weakest
      → g ≡ e.gust → strongest' ≡ cond (ltb g gust) strongest (i - 1) → gust' ≡ cond (ltb g gust) gust g
      → s ≡ union_size level e → largest' ≡ cond (ltb s size) largest (i - 1) → size' ≡ cond (ltb s size) size s
      → Gathered es level (i - 1) weakest' gust' strongest' size' largest'
  gathered_more level i weakest gust strongest size largest h o weakest' gust' strongest' size' largest' g s e pe pw pg pst pgu ps pla psi =
      let n : suc (i - 1) ≡ i = omega arith in
      let q : drop (i - 1) es ≡ e ∷ drop i es =
      drop-cons es (i - 1) zero_entry (omega (arith, h.within))
      ∙ ap (λ (x : Entry). x ∷ drop (suc (i - 1)) es) pe
      ∙ ap (λ (k : ℕ). e ∷ drop k es) n in
      let r : 0 < length (drop i es) = omega (arith, length-drop i es, h.within) in
      record {
        within = omega (arith, h.within);
        weakest_is = rw (q, least_more (weak_gust level) e (drop i es) r) (pw ∙ ap (λ (k : ℕ). min (weak_gust level e) k) h.weakest_is);
        gust_is = rw (q, greatest_more gust_of e (drop i es) r) (key_chosen gust_of gust' g gust e (first_greatest gust_of (drop i es)) pg h.gust_is pgu);
        strongest_within = subst (λ (k : ℕ). k < length es) (sym pst) (below_chosen (ltb g gust) strongest (i - 1) (length es) h.strongest_within (omega (arith, h.within)));
        strongest_is = rw (q, greatest_more gust_of e (drop i es) r) (place_chosen gust_of (i - 1) strongest' strongest g gust e (first_greatest gust_of (drop i es)) pe h.strongest_is pg h.gust_is pst);
        size_is = rw (q, greatest_more (union_size level) e (drop i es) r) (key_chosen (union_size level) size' s size e (first_greatest (union_size level) (drop i es)) ps h.size_is psi);
        largest_within = subst (λ (k : ℕ). k < length es) (sym pla) (below_chosen (ltb s size) largest (i - 1) (length es) h.largest_within (omega (arith, h.within)));
        largest_is = rw (q, greatest_more (union_size level) e (drop i es) r) (place_chosen (union_size level) (i - 1) largest' largest s size e (first_greatest (union_size level) (drop i es)) pe h.largest_is ps h.size_is pla);
      }

  -- all entries gathered
  pub gathered_all : (p level : ℕ) (place : Box) (weakest gust strongest size largest : ℕ) → place ≡ covering es → Gathered es level 0 weakest gust strongest size largest
      → (g : ℕ) (b u : Box) (e f : Entry) → get_or es strongest zero_entry ≡ e → get_or es largest zero_entry ≡ f → g ≡ e.gust → b ≡ record_box level e → u ≡ union_box level f
      → ◌≡◌ {A = Entry} (record { place = place; gust = g; weakest = weakest; child = p; strongest = b; union = u }) (summary p level es)
  unfolding summary
  gathered_all p level place weakest gust strongest size largest qp h g b u e f pe pf pg pb pu =
      let qe : e ≡ first_greatest gust_of es = sym pe ∙ h.strongest_is in
      let qf : f ≡ first_greatest (union_size level) es = sym pf ∙ h.largest_is in
      let qg = pg ∙ ap gust_of qe in
      let qb = pb ∙ ap (record_box level) qe in
      let qu = pu ∙ ap (union_box level) qf in
      let qw = h.weakest_is in
      λ i. record { place = qp i; gust = qg i; weakest = qw i; child = p; strongest = qb i; union = qu i }

pub gathered_page : (x : Page) (p level i : ℕ) (place : Box) (weakest gust strongest size largest : ℕ) → level ≡ x.level → i ≡ 0 → place ≡ covering (in_use x)
    → Gathered (in_use x) level i weakest gust strongest size largest
    → (e f : Entry) → e ≡ get_or x.entries strongest zero_entry → f ≡ get_or x.entries largest zero_entry
    → (g : ℕ) (b u : Box) → g ≡ e.gust → b ≡ record_box level e → u ≡ union_box level f
    → ◌≡◌ {A = Entry} (record { place = place; gust = g; weakest = weakest; child = p; strongest = b; union = u }) (summary_of p x)
unfolding summary_of
gathered_page x p level i place weakest gust strongest size largest pl z qp h e f pe pf g b u pg pb pu =
    let k : Gathered (in_use x) level 0 weakest gust strongest size largest =
    subst (λ (n : ℕ). Gathered (in_use x) level n weakest gust strongest size largest) z h in
    gathered_all (in_use x) p level place weakest gust strongest size largest qp k g b u e f
    (used_entry x strongest k.strongest_within ∙ sym pe) (used_entry x largest k.largest_within ∙ sym pf) pg pb pu
    ∙ ap (λ (l : ℕ). summary p l (in_use x)) pl

-- no entry in use
abbrev pub empty_summary : ℕ → Entry
empty_summary p = record { place = zero_box; gust = 0; weakest = 0; child = p; strongest = zero_box; union = zero_box }

either_zero : (t : Bool) → cond t zero_box zero_box ≡ zero_box
either_zero true = refl
either_zero false = refl

pub summary_none : (p level : ℕ) (es : List Entry) → 0 ≡ length es → empty_summary p ≡ summary p level es
unfolding summary covering first_greatest least_of
summary_none p level (e ∷ es) h = absurd (omega arith)
summary_none p level [] h =
    let b : zero_box ≡ cond (is_leaf level) zero_box zero_box = sym (either_zero (is_leaf level)) in
    λ i. record { place = zero_box; gust = 0; weakest = 0; child = p; strongest = b i; union = b i }
