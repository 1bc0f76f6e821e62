-- Recording on a sound book: the book stays sound, the answers are kept, the struck count is exact.
use Rattle.ground.specs.Tests.{below_or_not}
use Rattle.std.specs.Prelude.{Bool, true, false, cond, List, ◌≡◌, refl, ℕ, ◌+◌, ◌-◌, ◌≤◌, ◌<◌, length}
use Rattle.std.proofs.Common.{sym, ◌∙◌}
use Rattle.std.proofs.Math.Path.{ap, subst}
use Rattle.std.proofs.Math.Logic.{⊎_elim}
use native.Mathlib.Omega.{arith}
use Rattle.ground.specs.Boxes.{legal, gust_passes}
use Rattle.ground.specs.Sums.{total}
use Rattle.ground.specs.declared.boxes.Box.{Box}
use Rattle.pages.specs.Free.{free_count}
use Rattle.pages.specs.declared.Page.{Page}
use Rattle.pages.specs.declared.Small.{Small}
use Rattle.split.specs.SplitLaws.{weigh, weigh_count}
use Rattle.wellformed.specs.WellFormed.{most_accepted}
use Rattle.rules.specs.CameLaws.{kept, kept_if, Before}
use Rattle.rules.specs.CollapseLaws.{Collapsed, collapse_law}
use Rattle.rules.specs.Frame.{root_load, root_records}
use Rattle.rules.specs.FromRoot.{GrownTo}
use Rattle.rules.proofs.FromRoot.{root_law}
use Rattle.rules.specs.Moves.{only, Apart}
use Rattle.rules.specs.Recording.{Walked, Rooted, put_root_right, collapse, from_root, put_right, Recorded, recorded}
use Rattle.rules.specs.RootLaws.{Grown}
use Rattle.rules.specs.Scan.{handed_in}
use Rattle.rules.specs.Tree.{Sound, level_of}
use Rattle.rules.specs.Book.{Book, total_only, says_covered, says_covered_lem, Leaves}

module _ (ps : List Page) (s : Small) (book : Book ps s) (b : Box) (v : ℕ) (lawful : legal b ≡ true) (passes : gust_passes (record { tenths = v }) ≡ true)
    (unspent : s.accepted ≡ most_accepted → ⊥) (room : s.height + 1 ≤ free_count ps) where
  n : ℕ
  n = book.levels

  apart : Apart ps (root_load ps n s.root)
  unfolding n
  apart q = let a = book.whole (only q) in let c = total_only q (length ps) in omega arith

  pub before : Before book.levels v ps s.root (handed_in b)
  unfolding n
  before = record { stands = book.tree; apart = apart; lawful = lawful; passes = passes; fresh = refl; room = let h = book.height in omega arith }

  -- the record with k levels under the root's entries
  at : ℕ → Recorded
  at k = put_right s (from_root k v ps s.root (handed_in b))

  w : Walked
  w = from_root n v ps s.root (handed_in b)

  t : Rooted
  t = put_root_right w.became w.pages s.root

  r : Rooted
  r = collapse s.height t.pages t.root

  grown : GrownTo n v ps s.root (handed_in b) w t
  unfolding w t n
  grown = root_law n v ps s.root (handed_in b) before (let h = book.height in omega arith)

  collapsed : Collapsed n v ps s.root b w.struck w.sought apart r
  unfolding r
  collapsed =
      collapse_law n v ps s.root b w.struck w.sought apart s.height grown.levels t.pages t.root
      (unfold n in let h = book.height in let g = grown.most in omega arith) grown.grown

  final : Grown n v ps s.root b w.struck w.sought r.pages r.root collapsed.levels
  final = collapsed.grown

  new_count : (o : Bool) (x : Box) → length (kept_if o x v) + cond o 1 0 ≡ 1
  new_count true x = refl
  new_count false x = refl

  leaves : Leaves ps s book b v (at n)
  unfolding at w t r n
  leaves =
      let m = final.moved in
      let l = level_of r.pages collapsed.levels r.root (Sound r.pages collapsed.levels) final.tree in
      record {
        after =
            record {
              levels = collapsed.levels;
              height = l;
              tree = final.tree;
              wide = collapsed.wide;
              whole = λ h. m.sums h ∙ book.whole h ∙ ap (total h) (sym m.same_length);
              clean = m.clean book.clean;
              few = ⊎_elim (λ (x : s.accepted < most_accepted). omega arith) (λ (x : most_accepted ≤ s.accepted). absurd (unspent (let f = book.few in omega arith)))
                  (below_or_not s.accepted most_accepted);
              counts =
                  let a = final.same (λ e. 1) in
                  let c = book.counts in
                  let d = final.counted in
                  let k = new_count w.sought.is_covered w.sought.box in
                  omega (arith, weigh_count (root_records r.pages collapsed.levels r.root), weigh_count final.gone, weigh_count (root_records ps book.levels s.root), weigh_count (kept w.sought v));
            };
        same_length = m.same_length;
        gone = final.gone;
        counted = final.counted;
        left = w.sought.box;
        inside = final.inside;
        same = λ g. final.same g ∙ ap (λ (o : Bool). weigh g (root_records ps book.levels s.root) + weigh g (kept_if o w.sought.box v)) (sym (says_covered_lem w.sought.is_covered w.sought.is_cut));
        spent = let a = m.spent in let h = book.height in omega arith;
        answers = final.answers;
      }

  pub recorded_law : Leaves ps s book b v (recorded ps s b v)
  unfolding recorded at n
  recorded_law =
      let e : s.height - 1 ≡ book.levels = let h = book.height in omega arith in
      subst (λ (k : ℕ). Leaves ps s book b v (at k)) (sym e) leaves
