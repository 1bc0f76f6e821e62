-- The root: what the walk from it leaves, whichever way the root goes on.
use Rattle.std.specs.Prelude.{true, ◌≡◌, ℕ, suc, ◌+◌, max, ◌≤◌, set}
use mathlib.Core.List.{List, [], ◌∷◌}
use Rattle.std.proofs.Math.Path.{refl, sym, ap, subst}
use Rattle.std.proofs.Common.{◌∙◌, arith}
use Rattle.std.proofs.Math.ListN.{length}
use Rattle.ground.specs.Boxes.{covers, legal}
use Rattle.ground.specs.declared.boxes.Box.{Box}
use Rattle.pages.specs.FreeLaws.{LowestFree}
use Rattle.pages.specs.Summary.{in_use}
use Rattle.pages.specs.declared.Entry.{Entry}
use Rattle.pages.specs.declared.Page.{Page}
use Rattle.split.specs.Split.{page_from}
use Rattle.split.specs.SplitLaws.{weigh, Each}
use Rattle.wellformed.specs.WellFormed.{page}
use Rattle.rules.specs.CameLaws.{all_records, kept, Came, best_perm, weaken}
use Rattle.rules.specs.Frame.{loads, root_load, root_records}
use Rattle.rules.specs.Lists.{best_of}
use Rattle.rules.specs.Moves.{Apart, Moved, moved_apart, beside, again, then, take_up}
use Rattle.rules.specs.Recording.{Walked}
use Rattle.rules.specs.Scan.{Sought}
use Rattle.rules.specs.Score.{score}
use Rattle.rules.specs.SettleLaws.{handle, handle_load, handle_records, one_load, one_records, alone, in_use_not_free, put_entries, put_stands, put_load, put_records}
use Rattle.rules.specs.StrikeLaws.{nothing}
use Rattle.rules.specs.Tree.{hit, Stands, Sound}

-- From the tree at r in ps, b handed in, to the tree at t in qs with m levels.
pub record Grown (n v : ℕ) (ps : List Page) (r : ℕ) (b : Box) (struck : ℕ) (s : Sought) (qs : List Page) (t m : ℕ) : Type 0 where
  pub tree : Stands qs m t (Sound qs m)
  pub some : 1 ≤ length (in_use (page qs t))
  pub moved : Moved ps qs (root_load ps n r) (root_load qs m t) (suc (suc n))
  pub gone : List Entry
  pub counted : struck ≡ length gone
  pub inside : covers b s.box ≡ true
  pub same : (g : Entry → ℕ) → weigh g (root_records qs m t) + weigh g gone ≡ weigh g (root_records ps n r) + weigh g (kept s v)
  pub answers : (q : Box) → legal q ≡ true → best_of (hit q) (root_records qs m t) ≡ max (best_of (hit q) (root_records ps n r)) (score q b v)

-- The root stands after the walk: what came is what has grown.
module _ (n v : ℕ) (ps : List Page) (r : ℕ) (s : Sought) (w : Walked) (m : ℕ) (few : m ≤ n) (c : Came m v ps r (root_load ps n r) (root_records ps n r) s 0 w) where
  pub stands_grown : c.handles ≡ handle w.pages r ∷ [] → Grown n v ps r s.box w.struck w.sought w.pages r m
  stands_grown e =
      let x : Each (Sound w.pages (suc m)) (handle w.pages r ∷ []) = subst (Each (Sound w.pages (suc m))) e c.sound in
      let a = alone w.pages m r x.0 in
      let moved : Moved ps w.pages (root_load ps n r) (root_load w.pages m r) (suc m) =
      again ps w.pages (root_load ps n r) (loads w.pages (suc m) c.handles) (suc m) c.moved (root_load ps n r) (root_load w.pages m r) (λ h. refl)
      (λ h. sym (ap (λ (l : List Entry). loads w.pages (suc m) l h) e ∙ one_load w.pages m r h)) in
      let same : (g : Entry → ℕ) → weigh g (all_records w.pages (suc m) c.handles) ≡ weigh g (root_records w.pages m r) =
      λ g. ap (λ (l : List Entry). weigh g (all_records w.pages (suc m) l)) e ∙ one_records w.pages m r g in
      record {
        tree = a.tree;
        some = a.some;
        moved = weaken ps w.pages (root_load ps n r) (root_load w.pages m r) (suc m) (suc (suc n)) (omega arith) moved;
        gone = c.gone;
        counted = let k = c.counted in omega arith;
        inside = c.inside;
        same = λ g. let k = c.same g in let l = same g in omega arith;
        answers = λ q l. sym (best_perm (hit q) (all_records w.pages (suc m) c.handles) (root_records w.pages m r) same) ∙ c.answers q l;
      }

  -- The root was split: a new root in the lowest free page, with the old page's entry first.
  module _ (q : ℕ) (e : c.handles ≡ handle w.pages r ∷ handle w.pages q ∷ []) (t : ℕ) (low : LowestFree w.pages t) where
    hs : List Entry
    hs = handle w.pages r ∷ handle w.pages q ∷ []

    qs : List Page
    qs = set w.pages t (page_from (suc (suc m)) hs)

    hs_sound : Each (Sound w.pages (suc m)) hs
    unfolding hs
    hs_sound = subst (Each (Sound w.pages (suc m))) e c.sound

    two : length hs ≡ 2
    unfolding hs
    two = refl

    hs_moved : Moved ps w.pages (root_load ps n r) (loads w.pages (suc m) hs) (suc m)
    unfolding hs
    hs_moved = subst (λ (l : List Entry). Moved ps w.pages (root_load ps n r) (loads w.pages (suc m) l) (suc m)) e c.moved

    taken : Moved w.pages qs nothing (λ h. h t) 1
    unfolding qs
    taken = take_up w.pages t (page_from (suc (suc m)) hs) low.within low.free (in_use_not_free (suc m) hs)

    module _ (apart : Apart ps (root_load ps n r)) where
      hs_apart : Apart w.pages (λ h. nothing h + loads w.pages (suc m) hs h)
      hs_apart x = let a = moved_apart ps w.pages (root_load ps n r) (loads w.pages (suc m) hs) (suc m) hs_moved apart x in omega arith

      new_load : (h : ℕ → ℕ) → root_load qs (suc m) t h ≡ h t + loads w.pages (suc m) hs h
      unfolding qs
      new_load h =
          sym (handle_load qs (suc m) t h)
          ∙ put_load (suc m) w.pages t hs low.within nothing 1 taken hs_apart hs_sound (omega (arith, two)) h

      new_records : root_records qs (suc m) t ≡ all_records w.pages (suc m) hs
      unfolding qs
      new_records =
          sym (handle_records qs (suc m) t)
          ∙ put_records (suc m) w.pages t hs low.within nothing 1 taken hs_apart hs_sound (omega (arith, two))

      split_grown : Grown n v ps r s.box w.struck w.sought qs t (suc m)
      unfolding qs
      split_grown =
          let x = again w.pages qs (λ h. nothing h + loads w.pages (suc m) hs h) (λ h. h t + loads w.pages (suc m) hs h) 1
          (beside w.pages qs nothing (λ h. h t) 1 taken (loads w.pages (suc m) hs))
          (loads w.pages (suc m) hs) (root_load qs (suc m) t) (λ h. omega arith) new_load in
          let y = then ps w.pages (root_load ps n r) (loads w.pages (suc m) hs) (suc m) hs_moved qs (root_load qs (suc m) t) 1 x in
          let same : root_records qs (suc m) t ≡ all_records w.pages (suc m) c.handles = new_records ∙ ap (all_records w.pages (suc m)) (unfold hs in sym e) in
          record {
            tree = put_stands (suc m) w.pages t hs low.within nothing 1 taken hs_apart hs_sound (omega (arith, two));
            some = let k = ap length (put_entries (suc m) w.pages t hs low.within nothing 1 taken hs_apart hs_sound (omega (arith, two))) in omega (arith, two);
            moved = weaken ps qs (root_load ps n r) (root_load qs (suc m) t) (suc m + 1) (suc (suc n)) (omega arith) y;
            gone = c.gone;
            counted = let k = c.counted in omega arith;
            inside = c.inside;
            same = λ g. let k = c.same g in let l = ap (weigh g) same in omega arith;
            answers = λ q l. ap (best_of (hit q)) same ∙ c.answers q l;
          }

      pub split_root : Grown n v ps r s.box w.struck w.sought (set w.pages t (page_from (suc (suc m)) (handle w.pages r ∷ handle w.pages q ∷ []))) t (suc m)
      unfolding qs hs
      split_root = split_grown
