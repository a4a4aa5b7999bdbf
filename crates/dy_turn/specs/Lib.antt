pub mod Histories
pub mod Indices
pub mod Views
pub mod Rule
pub mod Steps
pub mod Tokens
pub mod Seats
