-- The examples marked P in section 9 of RULES.md, in one list.
pub mod InTurn
pub mod Marked
