use Rattle.recording.specs.LyingSteps.{append_in, full_page}
use Rattle.recording.proofs.settle.append_at.Goals as goal

pub returns-then-n-lt-ENTRIES : goal.returns-then-n-lt-ENTRIES
returns-then-n-lt-ENTRIES c = append_in c.args.t.now c.args.p c.requires.1 _ c.used_at-n.result c.args.e c.used_at-n.ensures c.if-n-lt-ENTRIES.true c.put_at.ensures

pub split_page-requires : goal.split_page-requires
split_page-requires c = (c.requires.0, (full_page _ _ c.requires.1 c.used_at-n.result _ c.used_at-n.ensures c.if-n-lt-ENTRIES.false c.load.ensures).0, (full_page _ _ c.requires.1 c.used_at-n.result _ c.used_at-n.ensures c.if-n-lt-ENTRIES.false c.load.ensures).1, c.requires.2)
