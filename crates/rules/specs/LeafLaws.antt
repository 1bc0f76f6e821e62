-- A record appended to a leaf.
use Rattle.std.specs.Prelude.{Bool, true, false, ◌&&◌, ◌≡◌, refl, ℕ, ◌+◌, max}
use mathlib.Core.List.{List, [], ◌∷◌, ◌++◌, flat_map}
use Rattle.std.proofs.Common.{sym, ◌∙◌}
use Rattle.std.proofs.Math.Path.{ap, subst}
use native.Mathlib.Omega.{arith}
use Rattle.std.proofs.Math.ListN.{length-append}
use Rattle.ground.specs.Boxes.{covers, legal, gust_passes}
use Rattle.ground.specs.Tests.{joint}
use Rattle.ground.specs.declared.boxes.Box.{Box}
use Rattle.pages.specs.Layout.{words_of_box, words_of_entry}
use Rattle.pages.specs.Summary.{in_use}
use Rattle.pages.specs.Words.{every}
use Rattle.pages.specs.declared.Entry.{Entry}
use Rattle.pages.specs.declared.Page.{Page}
use Rattle.split.specs.SplitLaws.{weigh, weigh_append, each_append}
use Rattle.wellformed.specs.WellFormed.{page, leaf_entry_stands}
use Rattle.rules.specs.CameLaws.{all_records, kept, kept_if, CameFrom, Before, best_perm, settle_hands_on}
use Rattle.rules.specs.Frame.{loads, root_load}
use Rattle.rules.specs.Lists.{best_of, best_append, best_one, best_flat}
use Rattle.rules.specs.Moves.{only, again}
use Rattle.rules.specs.OnePage.{bests, scan_keeps}
use Rattle.rules.specs.Recording.{leaf_entry, Walked, settle, append}
use Rattle.rules.specs.Scan.{Sought, scan}
use Rattle.rules.specs.Score.{score, Scanned}
use Rattle.rules.specs.SettleLaws.{Settled, Ready}
use Rattle.rules.specs.SplitPageLaws.{settle_law}
use Rattle.rules.specs.StrikeLaws.{standing}
use Rattle.rules.specs.Tree.{load, records, hit, Sound, level_of}

-- a legal record is a sound leaf entry
pub leaf_sound : (b : Box) (v : ℕ) → legal b ≡ true → gust_passes (record { tenths = v }) ≡ true → leaf_entry_stands (leaf_entry b v) ≡ true
unfolding leaf_entry_stands words_of_entry words_of_box every
leaf_sound b v p q = joint (legal b && gust_passes (record { tenths = v })) true (joint (legal b) (gust_passes (record { tenths = v })) p q) refl

pub leaf_load : (ps : List Page) (es : List Entry) (h : ℕ → ℕ) → loads ps 0 es h ≡ 0
unfolding load weigh
leaf_load ps [] h = refl
leaf_load ps (e ∷ es) h = omega (arith, leaf_load ps es h)

pub leaf_records : (ps : List Page) (es : List Entry) → all_records ps 0 es ≡ es
unfolding records flat_map
leaf_records ps [] = refl
leaf_records ps (e ∷ es) = ap (λ (l : List Entry). e ∷ l) (leaf_records ps es)

module _ (v : ℕ) (ps : List Page) (p : ℕ) (s : Sought) (k : ℕ) (h : Before 0 v ps p s) where
  es : List Entry
  es = in_use (page ps p)

  t : Sought
  t = scan 0 v es s

  new : Entry
  new = leaf_entry t.box v

  scanned : Scanned v (λ q. bests ps q 0 es) s t
  unfolding t es
  scanned = scan_keeps ps 0 v (in_use (page ps p)) s h.stands.each h.fresh

  more : List Entry
  more = es ++ (new ∷ [])

  ready : Ready 0 ps p more
  unfolding more new es
  ready =
      record {
        inside = h.stands.inside;
        busy = standing ps 0 p (Sound ps 0) h.stands;
        apart = λ q. let a = h.apart q in let b = leaf_load ps more (only q) in omega arith;
        sound = each_append (Sound ps 0) es (new ∷ []) h.stands.each (leaf_sound t.box v (scanned.lawful h.lawful) h.passes, tt);
        some = omega (arith, length-append es (new ∷ []));
      }

  w : Walked
  w = settle ps p 1 more t k

  settled : Settled 0 ps p more w
  unfolding w es
  settled = settle_law 0 ps p more ready (unfold more in let m = h.stands.most in omega (arith, length-append es (new ∷ []))) h.room t k

  leaf_same : (g : Entry → ℕ) → weigh g (all_records ps 0 more) ≡ weigh g (all_records ps 0 es) + g new
  unfolding more weigh
  leaf_same g = let a = ap (weigh g) (leaf_records ps more) in let b = ap (weigh g) (leaf_records ps es) in omega (arith, weigh_append g es (new ∷ []))

  leaf_best : (q : Box) → best_of (hit q) (all_records ps 0 more) ≡ max (best_of (hit q) (all_records ps 0 es)) (score q t.box v)
  unfolding more new
  leaf_best q =
      let a = ap (best_of (hit q)) (leaf_records ps more) in
      let b = ap (best_of (hit q)) (leaf_records ps es) in
      let c = best_append (hit q) es (new ∷ []) in
      let d = best_one (hit q) new in
      omega arith

  appended : t.is_covered ≡ false → CameFrom 0 v ps p s k w
  unfolding w new es weigh
  appended o =
      let c = settled in
      let d = settle_hands_on ps p 1 more t k in
      record {
        handles = c.handles;
        shape = c.shape;
        sound = c.sound;
        moved =
            again ps w.pages (λ g. g p + loads ps 0 more g) (loads w.pages 1 c.handles) 1 c.moved (root_load ps 0 p) (loads w.pages 1 c.handles)
            (λ g. let a = leaf_load ps more g in let b = leaf_load ps es g in omega arith) (λ g. refl);
        gone = [];
        counted = let x = d.struck in omega arith;
        inside = subst (λ (y : Sought). covers s.box y.box ≡ true) (sym d.sought) scanned.inside;
        same = λ g.
            let a = c.same_records g in
            let b = leaf_same g in
            let e : weigh g (kept w.sought v) ≡ g new + 0 = ap (λ (y : Sought). weigh g (kept y v)) d.sought ∙ ap (λ (y : Bool). weigh g (kept_if y t.box v)) o in
            omega arith;
        answers = λ q l.
            let a = best_perm (hit q) (all_records w.pages 1 c.handles) (all_records ps 0 more) c.same_records in
            let b = leaf_best q in
            let e = best_flat (records ps 0) (hit q) es in
            let f = scanned.kept q l in
            omega arith;
      }

  pub append_law : (scan 0 v (in_use (page ps p)) s).is_covered ≡ false → CameFrom 0 v ps p s k (append v ps p (scan 0 v (in_use (page ps p)) s) k)
  unfolding append w t more new es
  append_law o =
      subst (λ (l : ℕ). CameFrom 0 v ps p s k (settle ps p l more t k)) (sym (level_of ps 0 p (Sound ps 0) h.stands)) (appended o)
