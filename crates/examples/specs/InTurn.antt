-- Records one after another as calls: where none is refused, they answer and leave what the rules alone give.
use Rattle.std.specs.Prelude.{ℕ, ◌+◌, Bool, true, false, ◌&&◌, not, List, [], ◌∷◌, map, ◌≡◌, refl, ltb, eqb}
use Rattle.std.proofs.Common.{sym, ap, ◌∙◌}
use Rattle.std.proofs.lemmas.Bool.{not-true}
use Rattle.ground.specs.Boxes.{legal, gust_passes}
use Rattle.ground.specs.Tests.{both, three}
use Rattle.ground.specs.declared.boxes.Box.{Box}
use Rattle.pages.specs.Free.{free_count}
use Rattle.pages.specs.Layout.{table_fits, pages_of, table_of}
use Rattle.pages.specs.LayoutLaws.{table_pages}
use Rattle.pages.specs.declared.Entry.{Entry}
use Rattle.pages.specs.declared.Page.{Page}
use Rattle.pages.specs.declared.Small.{Small}
use Rattle.wellformed.specs.Parts.{parts}
use Rattle.wellformed.specs.WellFormed.{most_accepted, well_formed}
use Rattle.rules.specs.Examples.{Report, Run, run as in_turn}
use Rattle.rules.specs.Record.{Called, refusal, record_into}
use Rattle.rules.specs.RecordLaws.{not_refused, answered_law}
use Rattle.rules.proofs.RecordLaws.{record_law}
use Rattle.rules.specs.Recording.{recorded}
use Rattle.index.specs.Run.{Call, Call.Record, Book, Moment, turn, run}

-- the calls of some reports, and the book that the rules leave
abbrev pub calls_of : List Report → List Call
calls_of xs = map (λ x. Record x.box x.gust) xs

abbrev pub book_of : Run → Book
book_of o = record { table = table_of o.pages; small = o.small }

-- that refusals 2, 3, 5 and 6 are not given, one after another
unfoldable pub pass_one : List Page → Small → Box → ℕ → Bool
pass_one ps s b v = legal b && gust_passes (record { tenths = v }) && (not (eqb s.accepted most_accepted) && not (ltb (free_count ps) (s.height + 1)))

unfoldable pub all_pass : List Page → Small → List Report → Bool
all_pass ps s [] = true
all_pass ps s (x ∷ xs) = pass_one ps s x.box x.gust && all_pass (recorded ps s x.box x.gust).pages (recorded ps s x.box x.gust).small xs

passed : (t : List ℕ) (s : Small) (b : Box) (v : ℕ) → well_formed t s ≡ true → pass_one (pages_of t) s b v ≡ true → refusal t s b v ≡ 0
unfolding refusal pass_one
passed t s b v w e =
    let h = three (legal b) (gust_passes (record { tenths = v })) (not (eqb s.accepted most_accepted) && not (ltb (free_count (pages_of t)) (s.height + 1))) e in
    let k = both (not (eqb s.accepted most_accepted)) (not (ltb (free_count (pages_of t)) (s.height + 1))) h.2 in
    rw ((parts t s w).fits, h.0, h.1, w, not-true (eqb s.accepted most_accepted) k.0, not-true (ltb (free_count (pages_of t)) (s.height + 1)) k.1)

pub in_turn_lem : (xs : List Report) (t : List ℕ) (s : Small) (l : List Entry) → well_formed t s ≡ true → all_pass (pages_of t) s xs ≡ true
    → (run (calls_of xs) (record { book = record { table = t; small = s }; list = l })).book ≡ book_of (in_turn (pages_of t) s xs)
unfolding run in_turn all_pass
in_turn_lem [] t s l w e = λ i. record { table = sym (table_pages t (parts t s w).fits) i; small = s }
in_turn_lem (x ∷ xs) t s l w e =
    let b = x.box in
    let v = x.gust in
    let r = recorded (pages_of t) s b v in
    let h = both (pass_one (pages_of t) s b v) (all_pass r.pages r.small xs) e in
    let z = passed t s b v w h.0 in
    let k = record_law t s b v (not_refused t s b v z) in
    let m = turn (Record b v) (record { book = record { table = t; small = s }; list = l }) in
    ap (λ (c : Called). (run (calls_of xs) (record { book = record { table = c.table; small = c.small }; list = m.list })).book) (answered_law t s b v z)
    ∙ in_turn_lem xs (table_of r.pages) r.small m.list k.well_formed_lem (ap (λ (ps : List Page). all_pass ps r.small xs) k.same_pages ∙ h.1)
    ∙ ap (λ (ps : List Page). book_of (in_turn ps r.small xs)) k.same_pages
