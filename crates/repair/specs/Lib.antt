pub mod Protected
pub mod Reach
pub mod Repair
