use mathlib.Core.Path.{◌≡◌}
use lib.ListN.{length, replicate}
use lib.Seq.{paste}
use Rattle.pages.specs.Layout.{zero_entry}
use Rattle.split.specs.Split.{entries_at}
use Rattle.split.proofs.filling.Nine.page.Given as goal

abbrev pub invariant-loop-k : goal.invariant-loop-k
invariant-loop-k l = (l.page.level ≡ l.level) × (l.page.count ≡ length l.members) × (l.page.entries ≡ paste (replicate 8 zero_entry) 0 (entries_at l.self.entries l.members) l.k)
