use mathlib.Core.Path.{refl, ap, ◌∙◌}
use native.Mathlib.Omega.{arith}
use Rattle.std.proofs.lemmas.Result.{err_from_is_err_and}
use Rattle.ground.specs.Refusals.{not_none}
use Rattle.image.specs.Image.{small_of}
use Rattle.index.specs.CallLaws.{read_long, load_refused, load_done, load_damaged}
use Rattle.index.proofs.images.load.Goals as goal

pub returns-in_err-trailer_for : goal.returns-in_err-trailer_for
returns-in_err-trailer_for c =
    let p = err_from_is_err_and c.from_residual.result c.from_residual.ensures.1 in
    rw (p.1, p.2) (load_refused _ _ _ _ c.in_err-trailer_for.ensures.number (not_none _))

pub decode-requires : goal.decode-requires
decode-requires c = read_long _ _ 0 c.in_ok-trailer_for.ensures.number refl

pub returns-in-Ok : goal.returns-in-Ok
returns-in-Ok c = load_done _ _ _ 0 c.in_ok-trailer_for.ensures.number refl _ _ c.check.result c.decode.ensures (c.small-small.ensures ∙ ap small_of c.in_ok-trailer_for.ensures.trailer) c.check.ensures _ c.in-Ok.is

pub returns-in-Err : goal.returns-in-Err
returns-in-Err c = load_damaged _ _ _ 0 c.in_ok-trailer_for.ensures.number refl _ _ c.check.result c.decode.ensures (c.small-small.ensures ∙ ap small_of c.in_ok-trailer_for.ensures.trailer) c.check.ensures _ _ _ c.in-Err.is c.clear.ensures c.empty.ensures
