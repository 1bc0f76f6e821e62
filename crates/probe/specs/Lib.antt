-- What the probe tells in numbers.
pub mod Days
