pub mod Items
pub mod Item
