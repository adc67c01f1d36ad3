pub mod Reserved
pub mod Record
pub mod Written
pub mod Stored
