-- The size of every box of 16-bit numbers is at most this.
use Rattle.std.specs.Prelude.{ℕ, ◌^◌}

abbrev pub most_size : ℕ
most_size = 2 ^ 48
