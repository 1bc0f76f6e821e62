-- The third demand: over any run of calls, refused ones among them, each legal question answers what the full list answers.
use Rattle.std.specs.Prelude.{Some, None, Option, ℕ, ◌*◌, max, Bool, not, cond, ◌≡◌, length, replicate}
use Rattle.std.proofs.Math.Bool.{true, false}
use mathlib.Core.List.{List, [], ◌∷◌, flat_map}
use Rattle.std.proofs.Math.Path.{refl, ap}
use Rattle.std.proofs.Common.{sym, ap₂, ◌∙◌, subst, arith}
use borrow.Author.Tests.{eqb-true, eqb-false}
use Rattle.std.proofs.Math.Dec.{eqb}
use Rattle.asking.specs.Asking.{asked, says}
use Rattle.asking.specs.Answers.{never_refused, answer_is_box_max, pages_touching}
use Rattle.asking.specs.BoxMax.{greatest, score, box_max}
use Rattle.asking.specs.ExactEntries.{All, none_touches, nothing_so}
use Rattle.ground.specs.Boxes.{legal}
use Rattle.ground.specs.declared.boxes.Box.{Box}
use Rattle.image.specs.Image.{image_pages, trailer_good, trailer_of, image_form, table_of as image_table}
use Rattle.pages.specs.Free.{empty_leaf, empty_small, empty_table}
use Rattle.pages.specs.FreeLaws.{empty_pages_lem}
use Rattle.pages.specs.Layout.{page_words, table_fits, pages_of, table_of, pages_in, free_page}
use Rattle.pages.specs.declared.Entry.{Entry}
use Rattle.pages.specs.declared.Page.{Page}
use Rattle.pages.specs.declared.Small.{Small}
use Rattle.wellformed.specs.Parts.{parts}
use Rattle.wellformed.specs.WellFormed.{held_records, well_formed, walk, leaf_entries, children}
use Rattle.rules.specs.EmptyBook.{empty_well_formed}
use Rattle.rules.specs.Record.{first_of, refusal, record_into}
use Rattle.rules.specs.RecordLaws.{not_refused, refused_law, answered_law}
use Rattle.rules.proofs.RecordLaws.{record_law}
use Rattle.rules.specs.Recording.{recorded, leaf_entry}
use Rattle.index.specs.Calls.{Left, unchanged, empty_book, cleared, loaded, loaded_pages, image_refusal, pages_refusal, image_small}
use Rattle.index.specs.Run.{Call, Call.Clear, Call.Record, Call.Ask, Call.Count, Call.Save, Call.Load, Book, reply_to, held, Moment, turn, run, made, Answers, Good, GoodCall, GoodRun}

-- the held records count for every legal question what the list counts
pub record Same (t : List ℕ) (s : Small) (l : List Entry) : Type 0 where
  pub well_formed_lem : well_formed t s ≡ true
  pub best : (q : Box) → legal q ≡ true → box_max q (held_records (pages_of t) s) ≡ box_max q l

-- the empty book holds nothing
pub empty_held : (t : List ℕ) → table_fits t ≡ true → held_records (pages_of (empty_table t)) empty_small ≡ []
unfolding held_records walk leaf_entries flat_map children
empty_held t e = ap (λ (ps : List Page). held_records ps empty_small) (empty_pages_lem t e)

empty_same : (t : List ℕ) → table_fits t ≡ true → Same (empty_table t) empty_small []
empty_same t e = record { well_formed_lem = empty_well_formed t e; best = λ q h. ap (box_max q) (empty_held t e) }

module _ (t : List ℕ) (s : Small) (l : List Entry) (h : Same t s l) where
  fits : table_fits t ≡ true
  fits = (parts t s h.well_formed_lem).fits

  cleared_same : Same (cleared t s).table (cleared t s).small (cond (table_fits t) [] l)
  unfolding cleared
  cleared_same = rw fits (empty_same t fits)

  record_same : (b : Box) (v : ℕ) → Same (record_into t s b v).table (record_into t s b v).small (cond (eqb (refusal t s b v) 0) (leaf_entry b v ∷ l) l)
  unfolding greatest
  record_same b v = by_test (eqb (refusal t s b v) 0) refl
    where
      by_test : (c : Bool) → eqb (refusal t s b v) 0 ≡ c → Same (record_into t s b v).table (record_into t s b v).small (cond c (leaf_entry b v ∷ l) l)
      by_test false e = rw (refused_law t s b v (eqb-false (refusal t s b v) 0 e)) h
      by_test true e =
          let z = eqb-true (refusal t s b v) 0 e in
          let k = record_law t s b v (not_refused t s b v z) in
          let r = recorded (pages_of t) s b v in
          rw (answered_law t s b v z)
          (record {
            well_formed_lem = k.well_formed_lem;
            best = λ q lawful.
                ap (λ (ps : List Page). box_max q (held_records ps r.small)) k.same_pages
                ∙ k.answers q lawful
                ∙ (let x = h.best q lawful in omega arith);
          })

  -- loading is never refused with 4 before the pages are read
  not_4 : (image : List ℕ) → eqb (image_refusal image t) 4 ≡ false
  unfolding image_refusal
  not_4 image = by_pages (image_pages (length image))
    where
      by_tests : (c d : Bool) → eqb (first_of c 1 (first_of d 8 0)) 4 ≡ false
      by_tests true d = refl
      by_tests false true = refl
      by_tests false false = refl

      by_pages : (k : Option ℕ) → eqb (pages_refusal image t k) 4 ≡ false
      by_pages None = refl
      by_pages (Some p) = by_tests (not (eqb (length t) (page_words * p))) (not (trailer_good image_form p (trailer_of image)))

  list_loaded : List ℕ → ℕ → List Entry
  list_loaded image n = cond (eqb n 0) (held_records (pages_of (image_table image)) (image_small image)) (cond (eqb n 4) [] l)

  LoadSame : List ℕ → Left → Type 0
  LoadSame image x = Same x.table x.small (list_loaded image x.refusal)

  load_same : (image : List ℕ) → LoadSame image (loaded image t s)
  unfolding loaded list_loaded LoadSame
  load_same image = by_test (eqb (image_refusal image t) 0) refl
    where
      by_pages : (w : Bool) → well_formed (image_table image) (image_small image) ≡ w → LoadSame image (cond w (unchanged 0 (image_table image) (image_small image)) (empty_book 4 t))
      by_pages true e = record { well_formed_lem = e; best = λ q lawful. refl }
      by_pages false e = empty_same t fits

      by_test : (c : Bool) → eqb (image_refusal image t) 0 ≡ c → LoadSame image (cond c (loaded_pages image t) (unchanged (image_refusal image t) t s))
      by_test true e = by_pages (well_formed (image_table image) (image_small image)) refl
      by_test false e = rw (e, not_4 image) h

  -- every call keeps it
  turn_same : (c : Call) → let m = turn c (record { book = record { table = t; small = s }; list = l }) in Same m.book.table m.book.small m.list
  unfolding list_loaded LoadSame
  turn_same Clear = cleared_same
  turn_same (Record b v) = record_same b v
  turn_same (Ask q) = h
  turn_same Count = h
  turn_same (Save out) = h
  turn_same (Load image) = load_same image

  pub good_now : Good (record { book = record { table = t; small = s }; list = l })
  good_now =
      record {
        well_formed_lem = h.well_formed_lem;
        answers = λ q lawful.
            let best = answer_is_box_max t s q h.well_formed_lem lawful ∙ h.best q lawful in
            record {
              never_refused = never_refused t s q h.well_formed_lem lawful;
              best = best;
              nothing = (λ e. none_touches q l (sym best ∙ e), λ e. best ∙ nothing_so q l e);
              pages = pages_touching t s q h.well_formed_lem lawful;
            };
      }

  -- every call replies what it should
  call_good : (c : Call) → GoodCall (record { call = c; found = record { book = record { table = t; small = s }; list = l }; reply = reply_to c (record { table = t; small = s }) })
  call_good c =
      record {
        found_good = good_now;
        question = λ q e lawful. record { said = says (asked t s q); told = ap (λ d. reply_to d (record { table = t; small = s })) e; right = good_now.answers q lawful };
      }

run_same : (cs : List Call) (t : List ℕ) (s : Small) (l : List Entry) → Same t s l → GoodRun cs (record { book = record { table = t; small = s }; list = l })
unfolding run made
run_same [] t s l h = record { calls = tt; last = good_now t s l h }
run_same (c ∷ cs) t s l h =
    let m = turn c (record { book = record { table = t; small = s }; list = l }) in
    let rest = run_same cs m.book.table m.book.small m.list (turn_same t s l h c) in
    record { calls = (call_good t s l h c, rest.calls); last = rest.last }

-- Rule 11.3: from any well-formed book, an empty or a loaded one among them, on a table of any legal size: at each call of any run the book is well-formed, each legal question is replied to with what the full list gives at that moment, and after the run each still would be.
pub any_run : (cs : List Call) (b : Book) → well_formed b.table b.small ≡ true → GoodRun cs (record { book = b; list = held b })
any_run cs b w = run_same cs b.table b.small (held b) (record { well_formed_lem = w; best = λ q lawful. refl })

-- From the empty book the full list begins empty.
pub any_run_from_empty : (cs : List Call) (t : List ℕ) → table_fits t ≡ true → GoodRun cs (record { book = record { table = empty_table t; small = empty_small }; list = [] })
any_run_from_empty cs t e = run_same cs (empty_table t) empty_small [] (empty_same t e)
