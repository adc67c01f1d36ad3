pub mod Sum
pub mod Double
pub mod Product
pub mod Ring
pub mod Tables
pub mod Lent
pub mod PowerSum
