use Rattle.std.proofs.Common.{length, refl, ap, ◌∙◌}
use Rattle.lines.proofs.Fills.{part_filled, put_length}
use Rattle.lines.proofs.text.Text.push.Goals as goal

pub returns-clause-puts : goal.returns-clause-puts
returns-clause-puts c =
    let before = c.args.self.now in
    let filled = part_filled before.out.now _ _ before.at c.copy_from_slice.ensures.after in
    record { buffer = filled; past = refl; long = ap length filled ∙ put_length before.out.now before.at c.args.bytes.now c.requires }
