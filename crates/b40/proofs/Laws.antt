pub mod Bits
pub mod Back
pub mod Window
pub mod Places
pub mod Packing
pub mod Unpacking
pub mod RoundTrip
pub mod Values
