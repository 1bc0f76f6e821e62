-- The image's definitions, to be read beside section 6 of RULES.md, and the laws that the storeys above cite.
pub mod Bytes
pub mod Image
pub mod ByteLaws
pub mod TrailerLaws
pub mod ImageLaws
