pub mod Chain
pub mod Inside
pub mod Items
pub mod Plain
pub mod Pooled
pub mod Ranged
pub mod Reading
pub mod Store
