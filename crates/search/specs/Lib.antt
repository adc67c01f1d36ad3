pub mod Marked
pub mod Search
pub mod Values
pub mod SearchMarked
