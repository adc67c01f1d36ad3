pub mod Test
pub mod Each
pub mod Below
pub mod Parts
