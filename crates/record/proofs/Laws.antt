-- Laws of the record, for this crate's proofs and those of the crates above it.
pub mod Checks
pub mod Reserved
pub mod Record
pub mod Put
pub mod Stored
