use Rattle.std.proofs.Common.{arith}
use Rattle.wellformed.specs.PassLaws.{passes_free, passes_leaf, passes_index}
use Rattle.wellformed.proofs.page.page_passes.Goals as goal

pub returns-then-level-eq0 : goal.returns-then-level-eq0
returns-then-level-eq0 c = passes_free _ _ _ c.of-page.result c.requires c.of-page.ensures c.level-level.result _ c.level-level.ensures (omega arith) c.is_zero.ensures

pub returns-then-level-eq1 : goal.returns-then-level-eq1
returns-then-level-eq1 c =
    passes_leaf _ _ _ c.of-page.result c.requires c.of-page.ensures c.level-level.result _ _ _ _
    c.level-level.ensures (omega arith) c.least_count.ensures c.count-count.ensures c.leaf_entries_stand.ensures c.unused_is_zero-rest.ensures

pub returns : goal.returns
returns c =
    passes_index _ _ _ c.of-page.result c.requires c.of-page.ensures c.level-level.result _ _ _ _
    c.level-level.ensures (omega arith) c.least_count.ensures c.count-count.ensures c.index_entries_stand.ensures c.unused_is_zero-rest.ensures
