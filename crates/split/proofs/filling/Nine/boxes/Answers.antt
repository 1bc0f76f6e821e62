use mathlib.Core.Path.{◌≡◌, sym, ◌∙◌}
use native.Mathlib.Omega.{arith}
use Rattle.std.proofs.Common.{◌<◌, length, get_or, ext_get_or, rules}
use Rattle.std.proofs.Math.ListN.{length-map, get_or-map}
use Rattle.pages.specs.Layout.{zero_box, zero_entry}
use Rattle.pages.specs.WritingLaws.{unmapped}
use Rattle.split.specs.Split.{boxes_of}
use Rattle.split.proofs.filling.Nine.boxes.Goals as goal
use Rattle.split.proofs.filling.Nine.boxes.Goals.{Start}

long : (c : Start) → length c.args.self.now.entries ≡ 9
long c = search (rules, unmapped)

pub returns : goal.returns
returns c =
    let es = c.args.self.now.entries in
    let m = c.map.ensures.items in
    let n : length es ≡ 9 = long (goal.at.returns c).Start in
    let l : length (boxes_of es) ≡ 9 = length-map es (λ e. e.place) ∙ n in
    ext_get_or zero_box c.map.result (boxes_of es) (m.long ∙ sym l) (λ i h. let k : i < 9 = omega (arith, m.long) in let t = m.at i zero_entry zero_box k in let e : get_or c.map.result i zero_box ≡ (get_or es i zero_entry).place = search rules in e ∙ sym (get_or-map (λ e. e.place) es i zero_entry))
