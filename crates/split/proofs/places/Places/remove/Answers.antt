use mathlib.Core.Path.{ap, sym, ◌∙◌}
use mathlib.Core.List.{List}
use Prim.Native.Nat.{ℕ, ◌-◌}
use lib.ListN.{take, get_or}
use native.Mathlib.Omega.{arith}
use Rattle.std.proofs.Math.Seq.{get_or-take}
use Rattle.std.proofs.lemmas.List.{take-set}
use Rattle.split.specs.RoomLaws.{one_less}
use Rattle.split.specs.Split.{without}
use Rattle.split.specs.WorkLaws.{closed_up, counted}
use Rattle.split.proofs.places.Places.remove.Goals as goal

pub invariant_of-self : goal.invariant_of-self
invariant_of-self c =
    let p = c.self.inside in
    let n = counted p.at c.args.self.now p.count c.self.view_is (omega arith) in
    rw c.copy_within.ensures.after (one_less p.at p.count c.self.invariant c.args.at _ (omega arith) (omega arith) (omega arith))

pub returns : goal.returns
returns c =
    let p = c.self.inside in
    let n = counted p.at c.args.self.now p.count c.self.view_is (omega arith) in (
      take-set c.copy_within.new.self (p.count - 1) 0
          ∙ ap (take (p.count - 1)) c.copy_within.ensures.after ∙ closed_up p.at c.args.at p.count (omega arith) (omega arith) ∙ ap (without c.args.at) c.self.view_is,
      sym (get_or-take p.count p.at c.args.at 0 (omega arith)) ∙ ap (λ (l : List ℕ). get_or l c.args.at 0) c.self.view_is,
      c.self.invariant.within c.args.at (omega arith),
    )
