-- The laws of the call, for every table and small record: what is refused stays as it was; else the book stays well-formed and every answer is kept.
use Rattle.std.specs.Prelude.{Bool, true, false, not, cond, List, [], ◌∷◌, ◌≡◌, refl, ℕ, suc, ◌+◌, max, ◌≤◌, ◌<◌, ◌-◌, eqb, ltb, length, set}
use Rattle.std.proofs.Common.{sym, ap, ◌∙◌, subst, arith, length-set}
use borrow.Author.Tests.{not-false, eqb-false, eq-eqb, ltb-false, ne_eqb}
use Rattle.asking.specs.BoxMax.{score, box_max}
use Rattle.ground.specs.Boxes.{covers, legal, gust_passes}
use Rattle.ground.specs.declared.boxes.Box.{Box}
use Rattle.pages.specs.Facts.{fitting}
use Rattle.pages.specs.Free.{free_count, count_free}
use Rattle.pages.specs.FreeLaws.{free_set, free_most}
use Rattle.pages.specs.Layout.{page_entries, pages_in, table_fits, pages_of, table_of, free_page}
use Rattle.pages.specs.LayoutLaws.{pages_length, pages_at, page_eight, Whole, Whole.none, Whole.more, table_length, pages_table, fits_alike}
use Rattle.pages.specs.declared.Entry.{Entry}
use Rattle.pages.specs.declared.Page.{Page}
use Rattle.pages.specs.declared.Small.{Small}
use Rattle.split.specs.SplitLaws.{weigh}
use Rattle.wellformed.specs.Parts.{parts, whole}
use Rattle.wellformed.specs.WellFormed.{page, held_records, well_formed, most_accepted}
use Rattle.rules.specs.Book.{Book, says_covered}
use Rattle.rules.specs.CameLaws.{kept_if}
use Rattle.rules.specs.FromWellFormed.{Conditions, book}
use Rattle.rules.specs.Record.{first_of, refusal, answered, refused, record_into}
use Rattle.rules.specs.Recording.{Recorded, recorded}
use Rattle.rules.specs.StrikeLaws.{standing}
use Rattle.rules.specs.ToWellFormed.{book_eight, conditions}
use Rattle.rules.specs.Tree.{Sound}

-- the conditions of a table's pages, and back
pub conditions_of : (t : List ℕ) (s : Small) → well_formed t s ≡ true → Conditions (pages_of t) s
conditions_of t s e =
    let p = parts t s e in
    record {
      root = p.root;
      lower = p.lower;
      reached = p.reached;
      stand = p.stand;
      counts = p.counts;
      eight = λ i l. let m : i < pages_in t = let k = pages_length t in omega arith in ap (λ (x : Page). length x.entries) (pages_at t i m) ∙ page_eight t i;
    }

whole_pages : (ps : List Page) → ((i : ℕ) → i < length ps → length (page ps i).entries ≡ page_entries) → Whole ps
whole_pages [] f = none
whole_pages (x ∷ xs) f = more (f 0 (omega arith)) (whole_pages xs (λ i l. f (suc i) (omega arith)))

-- a sound book's pages as a table
module _ (t : List ℕ) (fits : table_fits t ≡ true) (ps : List Page) (s : Small) (b : Book ps s) (same : length ps ≡ length (pages_of t)) where
  all_whole : Whole ps
  all_whole = whole_pages ps (book_eight ps s b)

  pub table_same_length : length (table_of ps) ≡ length t
  table_same_length = let a = table_length ps all_whole in let f = fitting t fits in let k = pages_length t in omega arith

  pub table_back : pages_of (table_of ps) ≡ ps
  table_back = pages_table ps all_whole

  pub table_well_formed : well_formed (table_of ps) s ≡ true
  table_well_formed =
      let c : Conditions (pages_of (table_of ps)) s = subst (λ (qs : List Page). Conditions qs s) (sym table_back) (conditions ps s b) in
      whole (table_of ps) s
      (record { fits = fits_alike t (table_of ps) table_same_length ∙ fits; root = c.root; lower = c.lower; reached = c.reached; stand = c.stand; counts = c.counts })

-- A record that is not refused meets every condition.
pub record Accepted (t : List ℕ) (s : Small) (b : Box) (v : ℕ) : Type 0 where
  pub fits : table_fits t ≡ true
  pub lawful : legal b ≡ true
  pub passes : gust_passes (record { tenths = v }) ≡ true
  pub sound : well_formed t s ≡ true
  pub unspent : s.accepted ≡ most_accepted → ⊥
  pub room : s.height + 1 ≤ free_count (pages_of t)

past : (c : Bool) (n later : ℕ) → 0 < n → first_of c n later ≡ 0 → (c ≡ false) × (later ≡ 0)
past true n later h e = absurd (omega arith)
past false n later h e = (refl, e)

module _ (t : List ℕ) (s : Small) (b : Box) (v : ℕ) where
  pub not_refused : refusal t s b v ≡ 0 → Accepted t s b v
  unfolding refusal
  not_refused e =
      let six = first_of (ltb (free_count (pages_of t)) (s.height + 1)) 6 0 in
      let five = first_of (eqb s.accepted most_accepted) 5 six in
      let four = first_of (not (well_formed t s)) 4 five in
      let three = first_of (not (gust_passes (record { tenths = v }))) 3 four in
      let two = first_of (not (legal b)) 2 three in
      let h₁ = past (not (table_fits t)) 1 two (omega arith) e in
      let h₂ = past (not (legal b)) 2 three (omega arith) h₁.1 in
      let h₃ = past (not (gust_passes (record { tenths = v }))) 3 four (omega arith) h₂.1 in
      let h₄ = past (not (well_formed t s)) 4 five (omega arith) h₃.1 in
      let h₅ = past (eqb s.accepted most_accepted) 5 six (omega arith) h₄.1 in
      let h₆ = past (ltb (free_count (pages_of t)) (s.height + 1)) 6 0 (omega arith) h₅.1 in
      record {
        fits = not-false (table_fits t) h₁.0;
        lawful = not-false (legal b) h₂.0;
        passes = not-false (gust_passes (record { tenths = v })) h₃.0;
        sound = not-false (well_formed t s) h₄.0;
        unspent = eqb-false s.accepted most_accepted h₅.0;
        room = ltb-false (free_count (pages_of t)) (s.height + 1) h₆.0;
      }

  -- A refusal returns its number, and table and small record stay unchanged.
  pub refused_law : (refusal t s b v ≡ 0 → ⊥) → record_into t s b v ≡ refused (refusal t s b v) t s
  unfolding record_into
  refused_law h = rw (ne_eqb (refusal t s b v) 0 h)

  pub answered_law : refusal t s b v ≡ 0 → record_into t s b v ≡ answered (recorded (pages_of t) s b v)
  unfolding record_into
  answered_law e = rw (eq-eqb (refusal t s b v) 0 e)

-- What a record that is not refused leaves, r the answer with pages and small record.
pub record RecordLaw (t : List ℕ) (s : Small) (b : Box) (v : ℕ) (r : Recorded) : Type 0 where
  -- the book stays well-formed, of the same length
  pub well_formed_lem : well_formed (table_of r.pages) r.small ≡ true
  pub same_length : length (table_of r.pages) ≡ length t
  pub same_pages : pages_of (table_of r.pages) ≡ r.pages
  -- the answer law: for every legal question the greater of the box-max before and the new record's score, b as handed in
  pub answers : (q : Box) → legal q ≡ true → box_max q (held_records r.pages r.small) ≡ max (box_max q (held_records (pages_of t) s)) (score q b v)
  -- the struck count is exactly the number of records that left; but for them and the new record, none for Covered, the held records are the same
  pub gone : List Entry
  pub counted : r.answer.struck ≡ length gone
  pub left : Box
  pub inside : covers b left ≡ true
  pub same_records : (g : Entry → ℕ) → weigh g (held_records r.pages r.small) + weigh g gone ≡ weigh g (held_records (pages_of t) s) + weigh g (kept_if (says_covered r.answer.outcome) left v)
  -- held + struck + covered = accepted, and at most height + 1 free pages are used up
  pub counts : length (held_records r.pages r.small) + r.small.struck + r.small.covered ≡ r.small.accepted
  pub spent : free_count (pages_of t) ≤ free_count r.pages + (s.height + 1)

-- the struck count and the small record's numbers stay at most 1,000,000
pub record Few (r : Recorded) : Type 0 where
  pub accepted : r.small.accepted ≤ most_accepted
  pub struck : r.small.struck ≤ most_accepted
  pub covered : r.small.covered ≤ most_accepted
  pub count : r.answer.struck ≤ most_accepted

-- Rule 7.34: a table of one or two pages takes no record.
pub small_table_refuses : (t : List ℕ) (s : Small) (b : Box) (v : ℕ) → pages_in t ≤ 2 → refusal t s b v ≡ 0 → ⊥
small_table_refuses t s b v h e =
    let a = not_refused t s b v e in
    let ps = pages_of t in
    let k = book ps s (conditions_of t s a.sound) in
    let f : count_free (page ps s.root) ≡ 0 = ap (λ (x : Bool). cond x 1 0) (standing ps k.levels s.root (Sound ps k.levels) k.tree) in
    let c = free_set ps s.root free_page k.tree.inside in
    let d = free_most (set ps s.root free_page) in
    let g = length-set ps s.root free_page in
    let r = a.room in
    let u = k.height in
    let w = pages_length t in
    omega arith
