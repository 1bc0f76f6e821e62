use Rattle.std.proofs.Common.{◌≡◌, ◌∙◌, ◌+◌, ◌++◌, ℕ, List, length, take, set, get_or, refl, sym, ap, ap₂, arith}
use Rattle.std.proofs.Math.Seq.{paste-zero}
use Rattle.split.specs.RoomLaws.{joined, joined_more, joined_first, joined_places}
use Rattle.split.specs.WorkLaws.{counted}
use Rattle.split.proofs.places.Places.append.Goals as goal

pub loop-k-init : goal.loop-k-init
loop-k-init c = paste-zero c.self.inside.at (length c.args.self.now) c.others.inside.at

pub loop-k-preserved : goal.loop-k-preserved
loop-k-preserved c =
    let n = counted c.self.inside.at c.args.self.now c.self.inside.count c.self.view_is (omega (arith, c.self.invariant.few)) in
    let m = counted c.others.inside.at c.args.others.now c.others.inside.count c.others.view_is (omega (arith, c.others.invariant.few)) in
    ap (λ (j : ℕ). set c.loop-k.places (j + c.loop-k.k) (get_or c.others.inside.at c.loop-k.k 0)) (sym n)
    ∙ joined_more c.self.inside.at c.loop-k.places c.others.inside.at _ c.loop-k.k c.loop-k.invariant (omega (arith, n, m, c.self.told)) (omega (arith, c.others.told, c.others.invariant.few))

pub invariant_of-self : goal.invariant_of-self
invariant_of-self c =
    let n = counted c.self.inside.at c.args.self.now c.self.inside.count c.self.view_is (omega (arith, c.self.invariant.few)) in
    let m = counted c.others.inside.at c.args.others.now c.others.inside.count c.others.view_is (omega (arith, c.others.invariant.few)) in
    let k : c.loop-k.k ≡ c.others.inside.count = omega arith in
    let e = c.loop-k.invariant ∙ ap₂ (λ (j i : ℕ). joined c.self.inside.at j c.others.inside.at i) n k in
    rw e (joined_places c.self.inside.at c.others.inside.at c.self.inside.count c.others.inside.count c.self.invariant c.others.invariant (omega (arith, n, m)))

pub returns : goal.returns
returns c =
    let n = counted c.self.inside.at c.args.self.now c.self.inside.count c.self.view_is (omega (arith, c.self.invariant.few)) in
    let k : c.loop-k.k ≡ c.others.inside.count = omega arith in
    let e = c.loop-k.invariant ∙ ap₂ (λ (j i : ℕ). joined c.self.inside.at j c.others.inside.at i) n k in (
      ap (take (c.self.inside.count + c.others.inside.count)) e
          ∙ joined_first c.self.inside.at c.others.inside.at c.self.inside.count c.others.inside.count (omega (arith, c.self.told, c.self.invariant.few)) (omega (arith, c.others.told, c.others.invariant.few))
          ∙ ap₂ (λ (x y : List ℕ). x ++ y) c.self.view_is c.others.view_is,
      refl,
    )
