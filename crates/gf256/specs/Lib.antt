pub mod Field
pub mod Tables
pub mod Lent
pub mod PowerSum
