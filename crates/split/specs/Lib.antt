-- The split's definitions, to be read beside rules 4.51 to 4.60, and the laws that the storeys above cite.
pub mod Split
pub mod SplitLaws
pub mod Sizes
pub mod Working
pub mod Room
pub mod RoomLaws
pub mod WorkLaws
pub mod Examples
