-- Asking, to be read beside section 5 of RULES.md: the definition of the answer, and the laws that the storeys above cite.
pub mod Asking
pub mod Seen
pub mod Turns
pub mod Bounded
pub mod BoxMax
pub mod ExactEntries
pub mod SoundBook
pub mod BelowPages
pub mod Answers
pub mod Examples
