-- The lines' definitions, to be read beside section 8 of RULES.md; the laws that the storey above cites; and, last,
-- how the code goes through a line, which no public promise but its proof speaks of.
pub mod Lines
pub mod Printing
pub mod Examples
pub mod NumberLaws
pub mod LineLaws
pub mod Cursor
pub mod Filling
