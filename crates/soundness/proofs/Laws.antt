pub mod Check
pub mod Run
