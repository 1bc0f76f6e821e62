-- The pages' definitions, to be read beside section 2 of RULES.md, and the laws that the storeys above cite.
pub mod Layout
pub mod Summary
pub mod Free
pub mod Facts
pub mod LayoutLaws
pub mod ViewLaws
pub mod Words
pub mod WordLaws
pub mod Ends
pub mod Laid
pub mod WritingLaws
pub mod SummaryLaws
pub mod GatherLaws
pub mod FreeLaws
pub mod Examples
