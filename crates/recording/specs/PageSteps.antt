-- A page by value, entry by entry.
use Rattle.std.specs.Prelude.{ℕ, suc, ◌+◌, ◌-◌, ◌≤◌, ◌<◌, List, [], ◌∷◌, ◌++◌, ◌≡◌, length, set, replicate}
use Rattle.std.proofs.Common.{append_assoc, length-append, sym, ap, ◌∙◌, arith, length-set}
use Rattle.std.proofs.lemmas.List.{set-append_left, set_at}
use Rattle.pages.specs.Layout.{page_entries, zero_entry}
use Rattle.pages.specs.Summary.{in_use}
use Rattle.pages.specs.declared.Entry.{Entry}
use Rattle.pages.specs.declared.Page.{Page}
use Rattle.split.specs.Split.{page_from}
use Rattle.split.specs.SplitLaws.{page_from_in_use}

-- a page that is these entries, at most eight, and the rest 0
pub record Tidy (x : Page) (level : ℕ) (es : List Entry) : Type 0 where
  pub is : x ≡ page_from level es
  pub most : length es ≤ page_entries

-- a page at most eight of whose entries are in use, and the rest 0
abbrev pub TidyPage : Page → Type 0
TidyPage x = Tidy x x.level (in_use x)

pub tidy_from : (level : ℕ) (es : List Entry) → length es ≤ page_entries → TidyPage (page_from level es)
unfolding page_from
tidy_from level es l =
    let u = page_from_in_use level es in
    record { is = ap (page_from level) (sym u); most = omega (arith, ap length u) }

pub in_use_is : (x : Page) (level : ℕ) (es : List Entry) → x ≡ page_from level es → in_use x ≡ es
in_use_is x level es e = ap (λ (y : Page). in_use y) e ∙ page_from_in_use level es

pub count_is : (x : Page) (level : ℕ) (es : List Entry) → x ≡ page_from level es → x.count ≡ length es
unfolding page_from
count_is x level es e = ap (λ (y : Page). y.count) e

pub level_is : (x : Page) (level : ℕ) (es : List Entry) → x ≡ page_from level es → x.level ≡ level
unfolding page_from
level_is x level es e = ap (λ (y : Page). y.level) e

-- a page of k entries so far, the others 0
pub record Filled (es : List Entry) (entries : List Entry) (k : ℕ) : Type 0 where
  count_is : k ≡ length es
  entries_are : entries ≡ es ++ replicate (page_entries - k) zero_entry

pub filled_more : (es entries : List Entry) (k : ℕ) (e : Entry) → k < page_entries → Filled es entries k → Filled (es ++ (e ∷ [])) (set entries k e) (k + 1)
filled_more es entries k e l h =
    let z : page_entries - k ≡ suc (page_entries - (k + 1)) = omega arith in
    record {
      count_is = omega (arith, h.count_is, length-append es (e ∷ []));
      entries_are =
          ap (λ xs. set xs k e) (h.entries_are ∙ ap (λ m. es ++ replicate m zero_entry) z)
          ∙ set_at es zero_entry (replicate (page_entries - (k + 1)) zero_entry) e k (sym h.count_is)
          ∙ sym (append_assoc es (e ∷ []) (replicate (page_entries - (k + 1)) zero_entry));
    }

pub filled_page : (es : List Entry) (level k : ℕ) (entries : List Entry) → Filled es entries k → record { level = level; count = k; entries = entries } ≡ page_from level es
unfolding page_from
filled_page es level k entries h = cc

-- one entry more
pub kept_more : (level : ℕ) (es : List Entry) (e : Entry) (y : Page) → y ≡ page_from level es → length es < page_entries → record { level = y.level; count = y.count + 1; entries = set y.entries y.count e } ≡ page_from level (es ++ (e ∷ []))
unfolding page_from
kept_more level es e y h l =
    let n : y.count ≡ length es = ap (λ (x : Page). x.count) h in
    let f : Filled es y.entries y.count = record { count_is = n; entries_are = ap (λ (x : Page). x.entries) h ∙ ap (λ m. es ++ replicate (page_entries - m) zero_entry) (sym n) } in
    ap (λ (m : ℕ). record { level = m; count = y.count + 1; entries = set y.entries y.count e }) (level_is y level es h)
    ∙ filled_page (es ++ (e ∷ [])) level (y.count + 1) (set y.entries y.count e) (filled_more es y.entries y.count e (omega arith) f)

pub pushed : (x : Page) (k : ℕ) (e : Entry) → k ≡ x.count → x ≡ page_from x.level (in_use x) → x.count < page_entries → record { level = x.level; count = k + 1; entries = set x.entries k e } ≡ page_from x.level (in_use x ++ (e ∷ []))
unfolding page_from
pushed x k e z h l =
    let n : k ≡ length (in_use x) = z ∙ ap (λ (y : Page). y.count) h in
    let f : Filled (in_use x) x.entries k = record { count_is = n; entries_are = ap (λ (y : Page). y.entries) h ∙ ap (λ m. in_use x ++ replicate (page_entries - m) zero_entry) (sym n) } in
    filled_page (in_use x ++ (e ∷ [])) x.level (k + 1) (set x.entries k e) (filled_more (in_use x) x.entries k e (omega arith) f)

-- another entry at place i
pub put_there : (x : Page) (i : ℕ) (e : Entry) → Tidy x x.level (in_use x) → i < x.count → Tidy (record { level = x.level; count = x.count; entries = set x.entries i e }) x.level (set (in_use x) i e)
unfolding page_from
put_there x i e h l =
    let n : x.count ≡ length (in_use x) = count_is x x.level (in_use x) h.is in
    let m : length (set (in_use x) i e) ≡ length (in_use x) = length-set (in_use x) i e in
    let q : set x.entries i e ≡ set (in_use x) i e ++ replicate (page_entries - x.count) zero_entry =
    ap (λ (y : Page). set y.entries i e) h.is ∙ set-append_left (in_use x) (replicate (page_entries - length (in_use x)) zero_entry) i e (omega arith) ∙ ap (λ k. set (in_use x) i e ++ replicate (page_entries - k) zero_entry) (sym n) in
    record { is = filled_page (set (in_use x) i e) x.level x.count (set x.entries i e) (record { count_is = n ∙ sym m; entries_are = q }); most = omega (arith, h.most) }
