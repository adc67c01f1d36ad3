pub mod Field
pub mod Packing
pub mod Unpacking
