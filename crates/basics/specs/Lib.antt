pub mod Each
pub mod Below
