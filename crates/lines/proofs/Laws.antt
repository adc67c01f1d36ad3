-- Laws of what is printed.
pub mod Page
pub mod Shown
pub mod Whole
pub mod Counted
