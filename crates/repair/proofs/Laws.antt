pub mod Changes
pub mod Damage
pub mod Repair
pub mod Reach
