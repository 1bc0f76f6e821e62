use Rattle.std.proofs.Common.{◌≡◌, length, refl, rules, arith}
use Rattle.pages.specs.Layout.{page_entries, words_of_entries}
use Rattle.pages.specs.WritingLaws.{entries_more, unmapped}
use Rattle.pages.proofs.writing.write_entries.Goals as goal

pub loop-i-init : goal.loop-i-init
unfolding words_of_entries
loop-i-init c = refl

pub loop-i-preserved : goal.loop-i-preserved
loop-i-preserved c =
    let eight : length c.args.x.entries ≡ page_entries = search (rules, unmapped) in
    entries_more _ _ _ _ c.loop-i.i (omega arith) c.loop-i.invariant c.write_entry.ensures
