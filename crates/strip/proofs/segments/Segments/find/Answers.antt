use Rattle.std.proofs.Common.{ltb, rules}
use Rattle.std.proofs.lemmas.Fn.{always_returns_same}
use Rattle.std.proofs.lemmas.List.Sorted.{IsPartitionedBy-ltb}
use Rattle.strip.specs.Strips.{last_of}
use Rattle.strip.specs.AskLaws.{ends_sorted, found_there}
use Rattle.strip.proofs.segments.Segments.find.Goals as goal

pub returns : goal.returns
returns c =
    let good = c.args.self.good in
    let day = c.args.day in
    let parted = IsPartitionedBy-ltb (λ w. last_of w) _ day (ends_sorted _ good) in
    let point = c.partition_point.ensures.partitioned (λ w. ltb (last_of w) day) (always_returns_same _ _ _ (λ a r f k. search rules)) parted in
    found_there _ good day _ c.requires c.partition_point.ensures.bound point
