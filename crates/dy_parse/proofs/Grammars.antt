pub mod Lists
pub mod Skipping
pub mod Deep
pub mod Rows
pub mod Choice
pub mod Decls
