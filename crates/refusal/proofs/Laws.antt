pub mod Number
pub mod Chain
pub mod Run
