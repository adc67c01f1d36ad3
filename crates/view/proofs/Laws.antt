-- Laws of the view, for this crate's proofs and those of the crates above it.
pub mod View
