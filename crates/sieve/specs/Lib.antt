-- A question as a sieve, and why the sieve decides touching and covering.
pub mod Sieve
pub mod SieveLaws
