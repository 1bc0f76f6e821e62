-- The answer law, as a clerk sees it: what is asked after a record is what was asked before, raised to the new gust where the question touches the box as handed in.
use Rattle.std.specs.Prelude.{true, List, ◌≡◌, ℕ, max}
use Rattle.std.proofs.Common.{sym, ap, ◌∙◌}
use Rattle.asking.specs.Answers.{answer_is_box_max}
use Rattle.asking.specs.BoxMax.{score, box_max}
use Rattle.ground.specs.Boxes.{legal}
use Rattle.ground.specs.declared.boxes.Box.{Box}
use Rattle.pages.specs.Layout.{pages_of, table_of}
use Rattle.pages.specs.declared.Page.{Page}
use Rattle.pages.specs.declared.Small.{Small}
use Rattle.wellformed.specs.WellFormed.{held_records}
use Rattle.rules.specs.Recording.{recorded}
use Rattle.rules.specs.RecordLaws.{Accepted}
use Rattle.rules.proofs.RecordLaws.{record_law}
use Rattle.rules.specs.AnswersKept.{best_answer}

module _ (t : List ℕ) (s : Small) (b : Box) (v : ℕ) (h : Accepted t s b v) (q : Box) (lawful : legal q ≡ true) where
  pub answer_kept : best_answer (table_of (recorded (pages_of t) s b v).pages) (recorded (pages_of t) s b v).small q ≡ max (best_answer t s q) (score q b v)
  answer_kept =
      let k = record_law t s b v h in
      answer_is_box_max (table_of (recorded (pages_of t) s b v).pages) (recorded (pages_of t) s b v).small q k.well_formed_lem lawful
      ∙ ap (λ (ps : List Page). box_max q (held_records ps (recorded (pages_of t) s b v).small)) k.same_pages
      ∙ k.answers q lawful
      ∙ ap (λ (n : ℕ). max n (score q b v)) (sym (answer_is_box_max t s q h.sound lawful))
