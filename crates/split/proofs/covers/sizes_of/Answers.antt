use mathlib.Core.Path.{◌≡◌, sym, ◌∙◌}
use native.Mathlib.Omega.{arith}
use Rattle.std.proofs.Common.{◌<◌, get_or, ext_get_or, map, rules}
use Rattle.std.proofs.lemmas.List.{get_or-map}
use Rattle.std.proofs.Math.ListN.{length-map}
use Rattle.ground.specs.Boxes.{size}
use Rattle.pages.specs.Layout.{zero_box}
use Rattle.split.proofs.covers.sizes_of.Goals as goal

pub returns : goal.returns
returns c =
    let bs = c.args.boxes.now in
    let m = c.map.ensures.items in
    let n = m.long in
    let l = length-map bs size in
    ext_get_or 0 c.map.result (map size bs) (omega (arith, c.told-boxes))
    (λ i h. let k : i < 9 = omega arith in let t = m.at i zero_box 0 k in let e : get_or c.map.result i 0 ≡ size (get_or bs i zero_box) = search rules in e ∙ sym (get_or-map size bs i zero_box 0 (omega (arith, c.told-boxes))))
