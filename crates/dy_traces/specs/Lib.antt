pub mod Steps
pub mod Instances
pub mod Following
pub mod Interleavings
pub mod Given
pub mod SmallValues
