pub mod Sequence
pub mod Onsets
