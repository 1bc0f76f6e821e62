-- A strike frees exactly the pages under the struck entries, and counts exactly their records.
use Rattle.std.specs.Prelude.{false, ◌≡◌, refl, ℕ, zero, suc, ◌+◌, ◌<◌, length, set}
use mathlib.Core.List.{List, [], ◌∷◌, flat_map}
use Rattle.std.proofs.Common.{sym, ap, subst, arith, ne_eqb, length-append}
use Rattle.ground.specs.declared.boxes.Box.{Box}
use Rattle.pages.specs.Free.{is_free}
use Rattle.pages.specs.Layout.{free_page}
use Rattle.pages.specs.Summary.{in_use}
use Rattle.pages.specs.declared.Entry.{Entry}
use Rattle.pages.specs.declared.Page.{Page}
use Rattle.split.specs.SplitLaws.{weigh, Each}
use Rattle.wellformed.specs.WellFormed.{page}
use Rattle.rules.specs.Frame.{loads, loads_unchanged, records_unchanged, sound_unchanged, frame}
use Rattle.rules.specs.Moves.{only, only_same, Pages, Apart, Moved, still, beside, again, then, release, moved_apart}
use Rattle.rules.specs.Strike.{Struck, strike_all, strike_one, strike, struck_of}
use Rattle.rules.specs.Tree.{load, records, Stands, Sound, level_of}

abbrev pub nothing : Pages
nothing h = 0

pub record Strikes (ps : List Page) (own : Pages) (gone : List Entry) (s : Struck) : Type 0 where
  pub moved : Moved ps s.pages own nothing 0
  pub counted : s.records ≡ length gone

-- a page that stands is not free
pub standing : (ps : List Page) (n p : ℕ) (S : Entry → Type 0) → Stands ps n p S → is_free (page ps p) ≡ false
standing ps n p S h = let l = level_of ps n p S h in ne_eqb (page ps p).level 0 (λ e. omega arith)

abbrev LawAt : ℕ → Type 0
LawAt n = (ps : List Page) (e : Entry) → Sound ps n e → Apart ps (λ h. load ps h n e) → Strikes ps (λ h. load ps h n e) (records ps n e) (strike_one n ps e)

strike_all_law : (n : ℕ) → LawAt n → (es : List Entry) (ps : List Page) → Each (Sound ps n) es → Apart ps (loads ps n es) → Strikes ps (loads ps n es) (flat_map (records ps n) es) (strike_all (strike_one n) ps es)
unfolding strike_all weigh flat_map
strike_all_law n one [] ps p a = record { moved = still ps nothing; counted = refl }
strike_all_law n one (e ∷ es) ps p a =
    let s = strike_one n ps e in
    let own : Pages = λ h. load ps h n e in
    let f = one ps e p.0 (λ q. let b = a q in omega arith) in
    let u = frame ps s.pages own nothing 0 f.moved (loads ps n es) a n es p.1 (λ q. omega arith) in
    let g = loads_unchanged ps s.pages n es u in
    let b = beside ps s.pages own nothing 0 f.moved (loads ps n es) in
    let c : Moved ps s.pages (λ h. load ps h n e + loads ps n es h) (loads s.pages n es) 0 =
    again ps s.pages (λ h. load ps h n e + loads ps n es h) (λ h. 0 + loads ps n es h) 0 b (λ h. load ps h n e + loads ps n es h) (loads s.pages n es) (λ h. refl) (λ h. let w = g h in omega arith) in
    let d : Apart s.pages (loads s.pages n es) = moved_apart ps s.pages (λ h. load ps h n e + loads ps n es h) (loads s.pages n es) 0 c a in
    let r = strike_all_law n one es s.pages (sound_unchanged ps s.pages n es u) d in
    record {
      moved = then ps s.pages (λ h. load ps h n e + loads ps n es h) (loads s.pages n es) 0 c (strike_all (strike_one n) s.pages es).pages nothing 0 r.moved;
      counted =
          let k = f.counted in
          let l = r.counted in
          let m = ap length (records_unchanged ps s.pages n es u) in
          omega (arith, length-append (records ps n e) (flat_map (records ps n) es));
    }

strike_one_above : (n : ℕ) (ps : List Page) (e : Entry) → Sound ps (suc n) e → Apart ps (λ h. load ps h (suc n) e)
    → Strikes ps (loads ps n (in_use (page ps e.child))) (flat_map (records ps n) (in_use (page ps e.child))) (strike_all (strike_one n) ps (in_use (page ps e.child)))
    → Strikes ps (λ h. load ps h (suc n) e) (records ps (suc n) e) (strike_one (suc n) ps e)
unfolding strike_one load records
strike_one_above n ps e h a r =
    let c = e.child in
    let es = in_use (page ps c) in
    let s = strike_all (strike_one n) ps es in
    let f = standing ps n c (Sound ps n) h.stands in
    let z : loads ps n es (only c) ≡ 0 = let b = a c in let o = only_same c in omega arith in
    let k = r.moved.kept c f z in
    let g : is_free (page s.pages c) ≡ false = subst (λ (x : Page). is_free x ≡ false) (sym k) f in
    let i : c < length s.pages = let y = h.stands.inside in let w = r.moved.same_length in omega arith in
    let one : Pages = λ h. h c in
    let b = beside ps s.pages (loads ps n es) nothing 0 r.moved one in
    let m : Moved ps s.pages (λ h. h c + loads ps n es h) one 0 =
    again ps s.pages (λ h. loads ps n es h + h c) (λ h. 0 + h c) 0 b (λ h. h c + loads ps n es h) one (λ h. omega arith) (λ h. omega arith) in
    record {
      moved = then ps s.pages (λ h. h c + loads ps n es h) one 0 m (set s.pages c free_page) nothing 0 (release s.pages c i g);
      counted = r.counted;
    }

pub strike_one_law : (n : ℕ) → LawAt n
unfolding strike_one load records
strike_one_law zero ps e h a = record { moved = still ps nothing; counted = refl }
strike_one_law (suc n) ps e h a =
    strike_one_above n ps e h a (strike_all_law n (strike_one_law n) (in_use (page ps e.child)) ps h.stands.each (λ q. let b = a q in omega arith))

pub strike_law : (n : ℕ) (b : Box) (v : ℕ) (ps : List Page) (es : List Entry) → Each (Sound ps n) (struck_of b v es) → Apart ps (loads ps n (struck_of b v es))
    → Strikes ps (loads ps n (struck_of b v es)) (flat_map (records ps n) (struck_of b v es)) (strike n b v ps es)
unfolding strike
strike_law n b v ps es h a = strike_all_law n (strike_one_law n) (struck_of b v es) ps h a
