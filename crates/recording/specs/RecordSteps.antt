-- Recording on a sound book, in the code's order.
use Rattle.std.specs.Prelude.{ℕ, ◌+◌, ◌-◌, ◌≤◌, ◌<◌, min, true, cond, List, ◌≡◌, length}
use Rattle.std.proofs.Common.{sym, ap, ap₂, subst, ◌∙◌}
use Rattle.ground.specs.declared.boxes.Box.{Box}
use Rattle.pages.specs.Layout.{most_pages, table_fits, pages_of}
use Rattle.pages.specs.declared.Page.{Page}
use Rattle.pages.specs.declared.Small.{Small}
use Rattle.wellformed.specs.WellFormed.{page, most_accepted}
use Rattle.recording.specs.declared.walk.Walked as code-walked
use Rattle.recording.specs.declared.Outcome as code-outcome
use Rattle.recording.specs.declared.Outcome.TheVariants as case
use Rattle.recording.specs.declared.Recorded as code-recorded
use Rattle.rules.specs.Scan.{Sought, handed_in}
use Rattle.rules.specs.Recording.{from_root, put_root_right, collapse, Outcome, Outcome.Kept, Outcome.Cut, Outcome.Covered, outcome_of, Recorded, recorded}
use Rattle.recording.specs.RootSteps.{Roots, RootsIf, LevelFits}
use Rattle.recording.specs.Views.{most_struck, sought_of, became_of, Walks}

-- Rule 4.81: the answers, by the code's cases.
abbrev pub outcome_is : code-outcome.Outcome → Outcome
outcome_is case.Kept = Kept
outcome_is case.Cut = Cut
outcome_is case.Covered = Covered

-- what a well-formed book's small record is known by
pub record SoundSmall (t : List ℕ) (s : Small) : Type 0 where
  pub fits : table_fits t ≡ true
  pub root : s.root < most_pages
  pub height : 1 ≤ s.height
  pub accepted : s.accepted ≤ most_accepted
  pub struck : s.struck ≤ most_accepted
  pub covered : s.covered ≤ most_accepted

-- the root after the walk has a level below the greatest word
abbrev pub RootLevelFits : List Page → Small → Box → ℕ → Type 0
RootLevelFits ps s b v = LevelFits (from_root (s.height - 1) v ps s.root (handed_in b)).pages s.root

-- the small record, but that the struck count stops
pub record SmallIs (r x : Small) (struck more : ℕ) : Type 0 where
  pub root_is : r.root ≡ x.root
  pub height_is : r.height ≡ x.height
  pub accepted_is : r.accepted ≡ x.accepted
  pub struck_is : r.struck ≡ struck + min more most_struck
  pub covered_is : r.covered ≡ x.covered

pub record RecordsOn (before after : List ℕ) (s small : Small) (r : code-recorded.Recorded) (x : Recorded) : Type 0 where
  pub pages_are : pages_of after ≡ x.pages
  pub outcome_is_lem : outcome_is r.outcome ≡ x.answer.outcome
  pub struck_is : r.struck ≡ min x.answer.struck most_struck
  pub small_is : SmallIs small x.small s.struck x.answer.struck

pub record Records (before after : List ℕ) (s small : Small) (b : Box) (v : ℕ) (r : code-recorded.Recorded) : Type 0 where
  pub same_length : length after ≡ length before
  pub records : RootLevelFits (pages_of before) s b v → RecordsOn before after s small r (recorded (pages_of before) s b v)

pub record SmallMade (after : List ℕ) (s : Small) (w : code-walked.Walked) (root : ℕ) (r : Small) : Type 0 where
  pub root_is : r.root ≡ root
  pub height_is : r.height ≡ (page (pages_of after) root).level
  pub accepted_is : r.accepted ≡ s.accepted + 1
  pub struck_is : r.struck ≡ s.struck + w.struck
  pub covered_is : r.covered ≡ s.covered + cond w.sought.covered 1 0

pub all_recorded : (t u w z : List ℕ) (s small : Small) (b : Box) (v q r : ℕ) (walked : code-walked.Walked) (o : code-outcome.Outcome) → Walks t u walked (from_root (s.height - 1) v (pages_of t) s.root (handed_in b))
    → RootsIf (LevelFits (pages_of u) s.root) u w q (put_root_right (became_of walked.became) (pages_of u) s.root)
    → Roots w z r (collapse s.height (pages_of w) q) → outcome_is o ≡ outcome_of (sought_of walked.sought) → SmallMade z s walked r small
    → Records t z s small b v (record { outcome = o; struck = walked.struck })
unfolding recorded
all_recorded t u w z s small b v q r walked o h g k e m =
    let x = from_root (s.height - 1) v (pages_of t) s.root (handed_in b) in
    let y = put_root_right x.became x.pages s.root in
    let a = collapse s.height y.pages y.root in
    record {
      same_length = k.same_length ∙ g.same_length ∙ h.same_length;
      records = λ fits.
          let f = g.roots (subst (λ ps. LevelFits ps s.root) (sym h.pages_are) fits) in
          let i : put_root_right (became_of walked.became) (pages_of u) s.root ≡ y = ap₂ (λ c ps. put_root_right c ps s.root) h.became_is h.pages_are in
          let j : collapse s.height (pages_of w) q ≡ a = ap₂ (λ ps c. collapse s.height ps c) (f.pages_are ∙ ap (λ c. c.pages) i) (f.root_is ∙ ap (λ c. c.root) i) in
          let pages : pages_of z ≡ a.pages = k.pages_are ∙ ap (λ c. c.pages) j in
          let root : r ≡ a.root = k.root_is ∙ ap (λ c. c.root) j in
          record {
            pages_are = pages;
            outcome_is_lem = e ∙ ap outcome_of h.sought_is;
            struck_is = h.struck_is;
            small_is = record {
              root_is = m.root_is ∙ root;
              height_is = m.height_is ∙ ap₂ (λ ps c. (page ps c).level) pages root;
              accepted_is = m.accepted_is;
              struck_is = m.struck_is ∙ ap (λ c. s.struck + c) h.struck_is;
              covered_is = m.covered_is ∙ ap (λ c. s.covered + cond c.is_covered 1 0) h.sought_is;
            };
          };
    }

pub from_handed_in : (t u : List ℕ) (n v r : ℕ) (s : Sought) (b : Box) (w : code-walked.Walked) → s ≡ handed_in b → Walks t u w (from_root n v (pages_of t) r s) → Walks t u w (from_root n v (pages_of t) r (handed_in b))
from_handed_in t u n v r s b w e h = subst (λ (x : Sought). Walks t u w (from_root n v (pages_of t) r x)) e h
