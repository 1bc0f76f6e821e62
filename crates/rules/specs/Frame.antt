-- What an entry shows does not change where its pages do not.
use mathlib.Core.List.{List, [], ◌∷◌, ◌++◌, flat_map}
use Rattle.std.specs.Prelude.{◌≡◌, length}
use Rattle.std.proofs.Math.Path.{refl}
use Rattle.std.proofs.Common.{ap, ap₂, arith}
use Prim.Native.Nat.{ℕ, zero, suc, ◌+◌, ◌≤◌, ◌<◌}
use Rattle.pages.specs.Summary.{in_use}
use Rattle.pages.specs.declared.Entry.{Entry}
use Rattle.pages.specs.declared.Page.{Page}
use Rattle.split.specs.SplitLaws.{weigh, Each}
use Rattle.wellformed.specs.WellFormed.{page}
use Rattle.rules.specs.Lists.{weigh_same, each_imp}
use Rattle.rules.specs.Moves.{only, only_same, not_free, Pages, Apart, Moved}
use Rattle.rules.specs.Tree.{load, records, Shown, Sound}

-- the sum of h over the pages under a list of entries
abbrev pub loads : List Page → ℕ → List Entry → Pages
loads ps n es h = weigh (load ps h n) es

-- the pages and the records of the tree at page r, with m levels under its entries
abbrev pub root_load : List Page → ℕ → ℕ → Pages
root_load ps m r h = h r + loads ps m (in_use (page ps r)) h

abbrev pub root_records : List Page → ℕ → ℕ → List Entry
root_records ps m r = flat_map (records ps m) (in_use (page ps r))

pub record Unchanged (ps qs : List Page) (n : ℕ) (e : Entry) : Type 0 where
  pub sound : Sound qs n e
  pub same_load : (h : ℕ → ℕ) → load qs h n e ≡ load ps h n e
  pub same_records : records qs n e ≡ records ps n e

pub loads_unchanged : (ps qs : List Page) (n : ℕ) (es : List Entry) → Each (Unchanged ps qs n) es → (h : ℕ → ℕ) → loads qs n es h ≡ loads ps n es h
loads_unchanged ps qs n es p h = weigh_same (load qs h n) (load ps h n) es (each_imp (Unchanged ps qs n) (λ e. load qs h n e ≡ load ps h n e) es (λ e u. u.same_load h) p)

pub records_unchanged : (ps qs : List Page) (n : ℕ) (es : List Entry) → Each (Unchanged ps qs n) es → flat_map (records qs n) es ≡ flat_map (records ps n) es
unfolding flat_map
records_unchanged ps qs n [] p = refl
records_unchanged ps qs n (e ∷ es) p = ap₂ (λ (a b : List Entry). a ++ b) p.0.same_records (records_unchanged ps qs n es p.1)

pub sound_unchanged : (ps qs : List Page) (n : ℕ) (es : List Entry) → Each (Unchanged ps qs n) es → Each (Sound qs n) es
sound_unchanged ps qs n es p = each_imp (Unchanged ps qs n) (Sound qs n) es (λ e u. u.sound) p

-- the pages that a weight counts are the same in both stores
abbrev SameWhere : List Page → List Page → Pages → Type 0
SameWhere ps qs own = (q : ℕ) → q < length ps → 0 < own (only q) → page qs q ≡ page ps q

module _ (ps qs : List Page) (len : length qs ≡ length ps) where
  unchanged_each : (n : ℕ) → ((e : Entry) → Sound ps n e → SameWhere ps qs (λ h. load ps h n e) → Unchanged ps qs n e)
      → (es : List Entry) → Each (Sound ps n) es → SameWhere ps qs (loads ps n es) → Each (Unchanged ps qs n) es
  unfolding weigh
  unchanged_each n one [] p s = tt
  unchanged_each n one (e ∷ es) p s =
      (one e p.0 (λ q l k. s q l (omega arith)), unchanged_each n one es p.1 (λ q l k. s q l (omega arith)))

  above_unchanged : (n : ℕ) (e : Entry) → Shown ps n (Sound ps n) e → page qs e.child ≡ page ps e.child
      → Each (Unchanged ps qs n) (in_use (page ps e.child)) → Unchanged ps qs (suc n) e
  unfolding load records
  above_unchanged n e h x u =
      record {
        sound =
            record {
              stands =
                  record {
                    inside = let i = h.stands.inside in omega arith;
                    form = rw x h.stands.form;
                    most = rw x h.stands.most;
                    each = rw x (sound_unchanged ps qs n (in_use (page ps e.child)) u);
                  };
              some = rw x h.some;
              exact = rw x h.exact;
            };
        same_load = λ g. rw x (ap (λ (m : ℕ). g e.child + m) (loads_unchanged ps qs n (in_use (page ps e.child)) u g));
        same_records = rw x (records_unchanged ps qs n (in_use (page ps e.child)) u);
      }

  pub unchanged : (n : ℕ) (e : Entry) → Sound ps n e → SameWhere ps qs (λ h. load ps h n e) → Unchanged ps qs n e
  unfolding load records
  unchanged zero e h s = record { sound = h; same_load = λ g. refl; same_records = refl }
  unchanged (suc n) e h s =
      above_unchanged n e h (s e.child h.stands.inside (let o = only_same e.child in omega arith))
      (unchanged_each n (unchanged n) (in_use (page ps e.child)) h.stands.each (λ q l k. s q l (omega arith)))

-- what a move does not own and what is not free shows what it showed
module _ (ps qs : List Page) (own after : Pages) (k : ℕ) (m : Moved ps qs own after k) (more : Pages) (apart : Apart ps (λ h. own h + more h)) where
  pub same_more : SameWhere ps qs more
  same_more q l p = let a = apart q in m.kept q (not_free ps q l (omega arith)) (omega arith)

  pub frame : (n : ℕ) (es : List Entry) → Each (Sound ps n) es → ((q : ℕ) → loads ps n es (only q) ≤ more (only q)) → Each (Unchanged ps qs n) es
  frame n es h b = unchanged_each ps qs m.same_length n (unchanged ps qs m.same_length n) es h (λ q l p. same_more q l (let c = b q in omega arith))
