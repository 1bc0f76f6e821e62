-- The ground floor's definitions, to be read beside section 1 of RULES.md, and the laws that the storeys above cite.
pub mod Boxes
pub mod Cutting
pub mod Dates
pub mod Refusals
pub mod Tests
pub mod Sums
pub mod Facts
pub mod Axes
pub mod BoxLaws
pub mod CellLaws
pub mod CutLaws
pub mod YearLaws
pub mod DateLaws
pub mod Examples
