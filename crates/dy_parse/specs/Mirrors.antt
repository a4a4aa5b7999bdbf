pub mod Gives
pub mod Lists
pub mod Skipping
pub mod Recipes
pub mod Plans
pub mod Statements
pub mod Files
pub mod Limits
