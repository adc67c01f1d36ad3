-- Laws of words and checksums, for this crate's proofs and those of the crates above it.
pub mod Bits
pub mod Word
pub mod Words
pub mod Checksum
