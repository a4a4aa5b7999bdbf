pub mod Folds
pub mod Rows
pub mod Least
pub mod Alike
