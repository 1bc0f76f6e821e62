-- The law of a record that is not refused: the book stays well-formed and every answer is kept.
use Rattle.std.specs.Prelude.{List, ◌≡◌, refl, ℕ, ◌+◌, max, length}
use Rattle.std.proofs.Common.{sym, ap, ◌∙◌, arith}
use Rattle.asking.specs.BoxMax.{score, box_max}
use Rattle.ground.specs.declared.boxes.Box.{Box}
use Rattle.pages.specs.Layout.{pages_of}
use Rattle.pages.specs.declared.Entry.{Entry}
use Rattle.pages.specs.declared.Page.{Page}
use Rattle.pages.specs.declared.Small.{Small}
use Rattle.split.specs.SplitLaws.{weigh}
use Rattle.rules.proofs.Book.{recorded_law}
use Rattle.rules.specs.FromWellFormed.{book}
use Rattle.rules.specs.Recording.{recorded}
use Rattle.rules.specs.ToWellFormed.{book_held}
use Rattle.rules.specs.RecordLaws.{conditions_of, table_same_length, table_back, table_well_formed, Accepted, RecordLaw, Few}

pub record_law : (t : List ℕ) (s : Small) (b : Box) (v : ℕ) → Accepted t s b v → RecordLaw t s b v (recorded (pages_of t) s b v)
record_law t s b v a =
    let ps = pages_of t in
    let r = recorded ps s b v in
    let k = book ps s (conditions_of t s a.sound) in
    let l = recorded_law ps s k b v a.lawful a.passes a.unspent a.room in
    let o = book_held ps s k in
    let n = book_held r.pages r.small l.after in
    record {
      well_formed_lem = table_well_formed t a.fits r.pages r.small l.after l.same_length;
      same_length = table_same_length t a.fits r.pages r.small l.after l.same_length;
      same_pages = table_back t a.fits r.pages r.small l.after l.same_length;
      answers = λ q e. ap (box_max q) n ∙ l.answers q e ∙ ap (λ (x : List Entry). max (box_max q x) (score q b v)) (sym o);
      gone = l.gone;
      counted = l.counted;
      left = l.left;
      inside = l.inside;
      same_records = λ g. let x = l.same g in let y = ap (weigh g) n in let z = ap (weigh g) o in omega arith;
      counts = let x = l.after.counts in let y = ap length n in omega arith;
      spent = l.spent;
    }

pub few : (t : List ℕ) (s : Small) (b : Box) (v : ℕ) → Accepted t s b v → Few (recorded (pages_of t) s b v)
unfolding recorded
few t s b v a =
    let ps = pages_of t in
    let r = recorded ps s b v in
    let k = book ps s (conditions_of t s a.sound) in
    let l = recorded_law ps s k b v a.lawful a.passes a.unspent a.room in
    let x = l.after.few in
    let y = l.after.counts in
    let u : r.small.struck ≡ s.struck + r.answer.struck = struck_adds ps s b v in
    record { accepted = x; struck = omega arith; covered = omega arith; count = omega arith }
  where
    struck_adds : (ps : List Page) (s : Small) (b : Box) (v : ℕ) → (recorded ps s b v).small.struck ≡ s.struck + (recorded ps s b v).answer.struck
    struck_adds ps s b v = refl
