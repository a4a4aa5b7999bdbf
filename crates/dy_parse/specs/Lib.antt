pub mod Mirrors
pub mod Limits
pub mod Reading
pub mod Messages
