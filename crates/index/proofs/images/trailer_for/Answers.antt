use mathlib.Core.Path.{sym, ◌∙◌}
use borrow.Author.Rules.{rules}
use Rattle.std.proofs.lemmas.Result.{err_from_is_err_and}
use Rattle.image.specs.ImageLaws.{length_of_pages}
use Rattle.index.specs.CallLaws.{refused_7, image_words, refused_1, refused_8, refused_none}
use Rattle.index.proofs.images.trailer_for.Goals as goal

pub returns-in_err-pages-clause-number : goal.returns-in_err-pages-clause-number
returns-in_err-pages-clause-number c =
    let p = err_from_is_err_and c.from_residual.result c.from_residual.ensures.1 in
    rw (p.1, p.2) (refused_7 _ _ c.image_pages.result c.image_pages.ensures _ c.in_err-pages.ensures.ok_part c.in_err-pages.ensures.value)

pub overflow_mul-pages : goal.overflow_mul-pages
overflow_mul-pages c = search (rules, length_of_pages _ _ (sym c.image_pages.ensures ∙ c.in_ok-pages.ensures.ok_part))

pub returns-then-t-pages-clause-number : goal.returns-then-t-pages-clause-number
returns-then-t-pages-clause-number c = refused_1 _ _ c.image_pages.result c.image_pages.ensures _ c.in_ok-pages.ensures.ok_part c.if-t-pages.true

pub read-trailer-requires : goal.read-trailer-requires
read-trailer-requires c = image_words _ _ c.image_pages.result c.image_pages.ensures c.in_ok-pages.ensures.ok_part

pub returns-then-not-good-clause-number : goal.returns-then-not-good-clause-number
returns-then-not-good-clause-number c = refused_8 _ _ c.image_pages.result c.image_pages.ensures _ c.in_ok-pages.ensures.ok_part c.read-trailer.result _ c.if-t-pages.false c.read-trailer.ensures c.good.ensures c.if-not-good.true

pub returns-clause-number : goal.returns-clause-number
returns-clause-number c = refused_none _ _ c.image_pages.result c.image_pages.ensures _ c.in_ok-pages.ensures.ok_part c.read-trailer.result _ c.if-t-pages.false c.read-trailer.ensures c.good.ensures c.if-not-good.false
