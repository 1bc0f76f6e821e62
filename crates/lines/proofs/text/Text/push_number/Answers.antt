use Rattle.std.proofs.Common.{length, ap, ◌∙◌, arith}
use Rattle.lines.specs.NumberLaws.{decimal_most}
use Rattle.lines.specs.Printing.{decimal}
use Rattle.lines.proofs.Fills.{number_filled, put_length}
use Rattle.lines.proofs.text.Text.push_number.Goals as goal

pub overflow_add-end : goal.overflow_add-end
overflow_add-end c = record { fits = omega (arith, c.digit_count.ensures, decimal_most 10 c.args.n) }

pub slice_bounds-fill_digits-end : goal.slice_bounds-fill_digits-end
slice_bounds-fill_digits-end c = omega (arith, c.digit_count.ensures, decimal_most 10 c.args.n)

pub returns-clause-puts : goal.returns-clause-puts
returns-clause-puts c =
    let before = c.args.self.now in
    let filled = number_filled before.out.now _ before.at c.args.n _ c.requires c.digit_count.ensures c.fill_digits.ensures in
    record {
      buffer = filled;
      past = omega (arith, c.digit_count.ensures);
      long = ap length filled ∙ put_length before.out.now before.at (decimal c.args.n) (omega (arith, decimal_most 10 c.args.n));
    }
