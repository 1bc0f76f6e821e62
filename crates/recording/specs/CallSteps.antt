-- The call: refused, or recorded.
use Rattle.std.specs.Prelude.{Result, Ok, Err, ℕ, suc, ◌+◌, ◌-◌, ◌≤◌, ◌<◌, true, List, ◌≡◌, refl}
use Rattle.std.proofs.Common.{sym, ap, ◌∙◌, subst, arith}
use Rattle.ground.specs.Refusals.{number}
use Rattle.ground.specs.declared.boxes.Box.{Box}
use Rattle.ground.specs.declared.refusals.Refusal.{Refusal}
use Rattle.pages.specs.Facts.{fitting}
use Rattle.pages.specs.FreeLaws.{free_most}
use Rattle.pages.specs.Layout.{table_fits, pages_of, table_of}
use Rattle.pages.specs.LayoutLaws.{table_pages, pages_length}
use Rattle.pages.specs.declared.Small.{Small}
use Rattle.recording.specs.declared.Recorded as code-recorded
use Rattle.recording.specs.declared.scan.Sought as code-sought
use Rattle.rules.proofs.Book.{before}
use Rattle.rules.specs.CameLaws.{Before}
use Rattle.rules.proofs.FromRoot.{root_level}
use Rattle.rules.specs.FromWellFormed.{book}
use Rattle.rules.specs.Record.{Reply, Reply.Refused, Reply.Answered, Called, refusal, answered, refused, record_into}
use Rattle.rules.specs.RecordLaws.{Accepted, not_refused, refused_law, answered_law, conditions_of}
use Rattle.rules.proofs.RecordLaws.{few}
use Rattle.rules.specs.Recording.{recorded, from_root}
use Rattle.recording.specs.RecordSteps.{outcome_is, RootLevelFits, SmallIs, Records}
use Rattle.recording.specs.RefusalSteps.{positive}
use Rattle.recording.specs.RootSteps.{LevelFits}
use Rattle.rules.specs.Scan.{handed_in}
use Rattle.recording.specs.TableSteps.{still_fits}
use Rattle.recording.specs.Views.{most_struck, sought_of}

-- Rules 7.31, 4.82: a refusal's number or the answer, by the code's cases.
abbrev pub reply_of : Result code-recorded.Recorded Refusal → Reply
reply_of (Err refusal) = Refused (number refusal)
reply_of (Ok r) = Answered (record { outcome = outcome_is r.outcome; struck = r.struck })

-- What a call leaves: its reply, the table and the small record.
abbrev pub called_of : List ℕ → Small → Result code-recorded.Recorded Refusal → Called
called_of t s r = record { reply = reply_of r; table = t; small = s }

-- the level of a new root fits its word
root_level_fits : (t : List ℕ) (s : Small) (b : Box) (v : ℕ) → Accepted t s b v → RootLevelFits (pages_of t) s b v
root_level_fits t s b v a =
    let ps = pages_of t in
    let k = book ps s (conditions_of t s a.sound) in
    let h = k.height in
    let r = a.room in
    let e : s.height - 1 ≡ k.levels = omega arith in
    let l = root_level k.levels v ps s.root (handed_in b) (before ps s k b v a.lawful a.passes a.unspent a.room) in
    let few : suc k.levels < 65_535 = omega (arith, free_most ps, pages_length t, (fitting t a.fits).most) in
    subst (λ (n : ℕ). LevelFits (from_root n v ps s.root (handed_in b)).pages s.root) (sym e) (omega (arith, l, few))

same_small : (r x : Small) (a k : ℕ) → k ≤ most_struck → x.struck ≡ a + k → SmallIs r x a k → r ≡ x
same_small r x a k l e h =
    let s : r.struck ≡ x.struck = omega (arith, h.struck_is) in
    let p = h.root_is in
    let q = h.height_is in
    let m = h.accepted_is in
    let c = h.covered_is in
    λ i. record { root = p i; height = q i; accepted = m i; struck = s i; covered = c i }

-- an accepted record leaves exactly what the rules give
pub answered_so : (t u : List ℕ) (s small : Small) (b : Box) (v : ℕ) (r : code-recorded.Recorded) → Accepted t s b v → Records t u s small b v r → called_of u small (Ok r) ≡ answered (recorded (pages_of t) s b v)
unfolding recorded
answered_so t u s small b v r a h =
    let o = h.records (root_level_fits t s b v a) in
    let x = recorded (pages_of t) s b v in
    let most = (few t s b v a).count in
    let f = still_fits t u a.fits h.same_length in
    let table : u ≡ table_of x.pages = sym (table_pages u f) ∙ ap table_of o.pages_are in
    let struck : r.struck ≡ x.answer.struck = omega (arith, o.struck_is, most) in
    let outcome = o.outcome_is_lem in
    let after = same_small small x.small s.struck x.answer.struck most refl o.small_is in
    λ i. record { reply = Answered (record { outcome = outcome i; struck = struck i }); table = table i; small = after i }

module _ (t : List ℕ) (s : Small) (b : Box) (v : ℕ) where
  pub call_refused : (r : Refusal) → number r ≡ refusal t s b v → called_of t s (Err r) ≡ record_into t s b v
  call_refused r e = ap (λ m. refused m t s) e ∙ sym (refused_law t s b v (λ w. let p = positive r in omega arith))

  pub call_accepted : 0 ≡ refusal t s b v → Accepted t s b v
  call_accepted z = not_refused t s b v (sym z)

  pub call_answered : (u : List ℕ) (small : Small) (r : code-recorded.Recorded) → 0 ≡ refusal t s b v → called_of u small (Ok r) ≡ answered (recorded (pages_of t) s b v) → called_of u small (Ok r) ≡ record_into t s b v
  call_answered u small r z h = h ∙ sym (answered_law t s b v (sym z))

-- an accepted record may walk from the root
pub may_walk_from_root : (t : List ℕ) (s : Small) (b : Box) (v : ℕ) (x : code-sought.Sought) → Accepted t s b v → sought_of x ≡ handed_in b → (table_fits t ≡ true) × Before (s.height - 1) v (pages_of t) s.root (sought_of x)
may_walk_from_root t s b v x a e =
    let ps = pages_of t in
    let k = book ps s (conditions_of t s a.sound) in
    let l : s.height - 1 ≡ k.levels = let h = k.height in omega arith in
    (a.fits, subst (Before (s.height - 1) v ps s.root) (sym e) (subst (λ (n : ℕ). Before n v ps s.root (handed_in b)) (sym l) (before ps s k b v a.lawful a.passes a.unspent a.room)))
