-- Nine entries in a page: it is split, and both pages' entries together show what the nine showed. Then the settling of a page, by its number of entries.
use Rattle.std.proofs.Common.{get_or-set_same, sym, ◌∙◌, leb-true, leb-false}
use Rattle.std.specs.Prelude.{Option, Bool, true, false, ◌≡◌, ℕ, suc, ◌+◌, ◌≤◌, leb, length, set}
use mathlib.Core.List.{List, [], ◌∷◌, flat_map}
use Rattle.std.proofs.Math.Path.{refl, ap, subst}
use native.Mathlib.Omega.{arith}
use Rattle.pages.specs.Free.{is_free, free_count}
use Rattle.pages.specs.FreeLaws.{LowestFree, lowest_at, lowest_found}
use Rattle.pages.specs.Layout.{free_page, page_entries}
use Rattle.pages.specs.Summary.{summary_of}
use Rattle.pages.specs.declared.Entry.{Entry}
use Rattle.pages.specs.declared.Page.{Page}
use Rattle.split.specs.Split.{halves, page_from}
use Rattle.split.specs.SplitLaws.{weigh, Each, halves_weigh, halves_each, nine_halves}
use Rattle.wellformed.specs.WellFormed.{page}
use Rattle.rules.specs.Frame.{loads, Unchanged, loads_unchanged, records_unchanged, sound_unchanged, frame}
use Rattle.rules.specs.Lists.{weigh_flat}
use Rattle.rules.specs.Moves.{only, free, Pages, Apart, Moved, moved_apart, beside, again, then, write, take_up}
use Rattle.rules.specs.Recording.{Became.split, into_page, split_page, settle_by, settle}
use Rattle.rules.specs.Scan.{Sought}
use Rattle.rules.specs.SettleLaws.{handle, Settled, Ready, in_use_not_free, put_sound, put_load, put_records, store_law}
use Rattle.rules.specs.StrikeLaws.{nothing}
use Rattle.rules.specs.Tree.{load, records, Sound}

module _ (n : ℕ) (ps : List Page) (p : ℕ) (es : List Entry) (r : Ready n ps p es) (nine : length es ≡ 9) where
  first : List Entry
  first = (halves es).first

  second : List Entry
  second = (halves es).second

  -- the page with the first group
  qs : List Page
  qs = set ps p (page_from (suc n) first)

  both_loads : (h : ℕ → ℕ) → loads ps n first h + loads ps n second h ≡ loads ps n es h
  unfolding first second
  both_loads h = halves_weigh es (load ps h n) (omega arith)

  both_records : (g : Entry → ℕ) → weigh (λ e. weigh g (records ps n e)) first + weigh (λ e. weigh g (records ps n e)) second ≡ weigh (λ e. weigh g (records ps n e)) es
  unfolding first second
  both_records g = halves_weigh es (λ e. weigh g (records ps n e)) (omega arith)

  sounds : Each (Sound ps n) first × Each (Sound ps n) second
  unfolding first second
  sounds = halves_each es (Sound ps n) (omega arith) r.sound

  record Sizes : Type 0 where
    first_some : 1 ≤ length first
    first_most_lem : length first ≤ page_entries
    second_some : 1 ≤ length second
    second_most : length second ≤ page_entries

  sizes : Sizes
  unfolding first second
  sizes = let t = nine_halves es nine in omega arith

  own : Pages
  own h = h p

  first_write : Moved ps qs own own 0
  unfolding qs own
  first_write = write ps p (page_from (suc n) first) r.inside r.busy (in_use_not_free n first)

  first_apart : Apart ps (λ h. own h + loads ps n first h)
  unfolding own
  first_apart q = let a = r.apart q in let b = both_loads (only q) in omega arith

  e₁ : Entry
  e₁ = handle qs p

  first_sound : Sound qs (suc n) e₁
  unfolding qs e₁ own
  first_sound = put_sound n ps p first r.inside own 0 first_write first_apart sounds.0 sizes.first_most_lem sizes.first_some

  first_load : (h : ℕ → ℕ) → load qs h (suc n) e₁ ≡ h p + loads ps n first h
  unfolding qs e₁ own
  first_load = put_load n ps p first r.inside own 0 first_write first_apart sounds.0 sizes.first_most_lem

  first_records : records qs (suc n) e₁ ≡ flat_map (records ps n) first
  unfolding qs e₁ own
  first_records = put_records n ps p first r.inside own 0 first_write first_apart sounds.0 sizes.first_most_lem

  second_unchanged : Each (Unchanged ps qs n) second
  unfolding own
  second_unchanged = frame ps qs own own 0 first_write (loads ps n es) r.apart n second sounds.1 (λ q. let b = both_loads (only q) in omega arith)

  -- what is owned once the first group is written
  between : Pages
  between h = load qs h (suc n) e₁ + loads qs n second h

  first_moved : Moved ps qs (λ h. h p + loads ps n es h) between 0
  unfolding own between
  first_moved =
      again ps qs (λ h. own h + loads ps n es h) (λ h. own h + loads ps n es h) 0 (beside ps qs own own 0 first_write (loads ps n es)) (λ h. h p + loads ps n es h) between (λ h. refl)
      (λ h. let a = both_loads h in let b = first_load h in let c = loads_unchanged ps qs n second second_unchanged h in omega arith)

  between_apart : Apart qs between
  between_apart = moved_apart ps qs (λ h. h p + loads ps n es h) between 0 first_moved r.apart

  -- then the second group in page q
  module _ (q : ℕ) (low : LowestFree qs q) where
    rs : List Page
    rs = set qs q (page_from (suc n) second)

    second_take : Moved qs rs nothing (λ h. h q) 1
    unfolding rs
    second_take = take_up qs q (page_from (suc n) second) low.within low.free (in_use_not_free n second)

    second_apart : Apart qs (λ h. nothing h + loads qs n second h)
    unfolding between
    second_apart x = let a = between_apart x in omega arith

    second_sounds : Each (Sound qs n) second
    second_sounds = sound_unchanged ps qs n second second_unchanged

    e₂ : Entry
    e₂ = handle rs q

    second_sound : Sound rs (suc n) e₂
    unfolding rs e₂
    second_sound = put_sound n qs q second low.within nothing 1 second_take second_apart second_sounds sizes.second_most sizes.second_some

    second_load : (h : ℕ → ℕ) → load rs h (suc n) e₂ ≡ h q + loads qs n second h
    unfolding rs e₂
    second_load = put_load n qs q second low.within nothing 1 second_take second_apart second_sounds sizes.second_most

    second_records : records rs (suc n) e₂ ≡ flat_map (records qs n) second
    unfolding rs e₂
    second_records = put_records n qs q second low.within nothing 1 second_take second_apart second_sounds sizes.second_most

    first_kept : Unchanged qs rs (suc n) e₁
    unfolding weigh between
    first_kept = (frame qs rs nothing (λ h. h q) 1 second_take between (λ x. let a = between_apart x in omega arith) (suc n) (e₁ ∷ []) (first_sound, tt) (λ x. omega arith)).0

    page_kept : page rs p ≡ page qs p
    unfolding qs
    page_kept = second_take.kept p (subst (λ (x : Page). is_free x ≡ false) (sym (get_or-set_same ps p (page_from (suc n) first) free_page r.inside)) (in_use_not_free n first)) refl

    handle_kept : handle rs p ≡ e₁
    unfolding e₁
    handle_kept = ap (summary_of p) page_kept

    second_moved : Moved qs rs between (loads rs (suc n) (e₁ ∷ e₂ ∷ [])) 1
    unfolding weigh between
    second_moved =
        again qs rs (λ h. nothing h + between h) (λ h. h q + between h) 1 (beside qs rs nothing (λ h. h q) 1 second_take between) between (loads rs (suc n) (e₁ ∷ e₂ ∷ [])) (λ h. omega arith)
        (λ h. let a = second_load h in let b = first_kept.same_load h in omega arith)

    same : (g : Entry → ℕ) → weigh g (flat_map (records rs (suc n)) (e₁ ∷ e₂ ∷ [])) ≡ weigh g (flat_map (records ps n) es)
    unfolding weigh
    same g =
        let a = weigh_flat (records rs (suc n)) g (e₁ ∷ e₂ ∷ []) in
        let b = ap (weigh g) (first_kept.same_records ∙ first_records) in
        let c = ap (weigh g) (second_records ∙ records_unchanged ps qs n second second_unchanged) in
        let d = weigh_flat (records ps n) g first in
        let f = weigh_flat (records ps n) g second in
        let k = weigh_flat (records ps n) g es in
        omega (arith, both_records g)

    two_pages : (s : Sought) (k : ℕ) → Settled n ps p es (record { pages = rs; became = split q; sought = s; struck = k })
    unfolding e₂
    two_pages s k =
        record {
          handles = e₁ ∷ e₂ ∷ [];
          shape = ap (λ (x : Entry). x ∷ handle rs q ∷ []) (sym handle_kept);
          sound = (first_kept.sound, (second_sound, tt));
          moved = then ps qs (λ h. h p + loads ps n es h) between 0 first_moved rs (loads rs (suc n) (e₁ ∷ e₂ ∷ [])) 1 second_moved;
          same_records = same;
        }

  -- a free page is found
  pub split_law : (s : Sought) (k : ℕ) → 1 ≤ free_count ps → Settled n ps p es (split_page ps p (suc n) es s k)
  unfolding split_page rs qs first second
  split_law s k room =
      let f = lowest_found qs (let x = first_moved.spent in omega arith) in
      subst (λ (x : Option ℕ). Settled n ps p es (into_page x qs (suc n) second s k)) (sym f.1) (two_pages f.0 (lowest_at qs f.0 f.1) s k)

-- Settling a page with one to nine entries.
pub settle_law : (n : ℕ) (ps : List Page) (p : ℕ) (es : List Entry) → Ready n ps p es → length es ≤ 9 → 1 ≤ free_count ps → (s : Sought) (k : ℕ) → Settled n ps p es (settle ps p (suc n) es s k)
unfolding settle
settle_law n ps p es r most room s k = by_test (leb (length es) page_entries) refl
  where
    by_test : (b : Bool) → leb (length es) page_entries ≡ b → Settled n ps p es (settle_by b ps p (suc n) es s k)
    by_test true e = store_law n ps p es r s k (leb-true (length es) page_entries e)
    by_test false e = split_law n ps p es r (let x = leb-false (length es) page_entries e in omega arith) s k room
