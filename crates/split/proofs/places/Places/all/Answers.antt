use mathlib.Core.Path.{◌≡◌, sym, ◌∙◌}
use native.Mathlib.Omega.{arith}
use Rattle.std.proofs.Common.{◌<◌, get_or, take_all, ext_get_or, rules}
use Rattle.split.specs.Split.{places}
use Rattle.split.specs.SplitLaws.{length_places, at_places}
use Rattle.split.proofs.places.Places.all.Goals as goal

pub returns : goal.returns
returns c =
    let m = c.from_fn.ensures.items in
    let n = m.long in
    take_all 9 c.from_fn.result (omega arith)
    ∙ ext_get_or 0 c.from_fn.result (places 0 9) (n ∙ sym (length_places 0 9))
    (λ i h. let k : i < 9 = omega arith in let t = m.at i 0 k in let e : get_or c.from_fn.result i 0 ≡ i = search rules in omega (arith, e, at_places 0 9 i k))
