-- What the crate's proofs share.
pub mod Tested
