pub mod FirstFound
pub mod Named
pub mod Added
