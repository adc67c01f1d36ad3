pub mod View
pub mod Read
