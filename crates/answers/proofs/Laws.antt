pub mod Done
pub mod Tells
