pub mod Desk
pub mod Model
