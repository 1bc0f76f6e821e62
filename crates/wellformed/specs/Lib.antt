-- Well-formed, to be read beside section 3 of RULES.md: the definition, and why a flat pass decides it.
pub mod WellFormed
pub mod Parts
pub mod Counting
pub mod Flat
pub mod PassLaws
pub mod MarkLaws
pub mod VerdictLaws
