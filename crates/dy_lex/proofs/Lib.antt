pub mod Runs
pub mod PrefixLaws
pub mod Reading
pub mod OneReading
