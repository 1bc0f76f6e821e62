use mathlib.Core.List.{List}
use mathlib.Core.Path.{◌≡◌, ap, ◌∙◌}
use Prim.Native.Nat.{ℕ}
use lib.ListN.{get_or, set, length, replicate}
use lib.Seq.{paste}
use native.Mathlib.Omega.{arith}
use Rattle.pages.specs.Layout.{zero_entry}
use Rattle.split.specs.Split.{entries_at}
use Rattle.split.specs.WorkLaws.{fill_step, fill_done}
use Rattle.split.proofs.filling.Nine.page.Goals as goal

pub loop-k-preserved : goal.loop-k-preserved
loop-k-preserved c =
    let i = c.loop-k.invariant in
    let es = c.args.self.now.entries in
    let n = ap length c.as_slice-i-items.ensures.same in (
      i.0,
      i.1,
      ap (λ (is : List ℕ). set c.loop-k.page.entries c.loop-k.k (get_or es (get_or is c.loop-k.k 0) zero_entry)) c.as_slice-i-items.ensures.same
          ∙ fill_step es c.args.members.now c.loop-k.page.entries c.loop-k.k (omega arith) (omega arith) i.2,
    )

pub returns : goal.returns
returns c =
    let i = c.loop-k.invariant in
    let es = c.args.self.now.entries in
    let is = c.args.members.now in
    let m = ap length c.as_slice-i-items.ensures.same in
    let n : c.loop-k.k ≡ length is = omega arith in
    fill_done es is c.args.level c.loop-k.page c.requires i.0 i.1 (i.2 ∙ ap (paste (replicate 8 zero_entry) 0 (entries_at es is)) n)
