pub mod Polynomial
pub mod Codeword
pub mod Decode
pub mod Marked
pub mod Check
pub mod Packed
