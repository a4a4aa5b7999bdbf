pub mod Machine
pub mod Distinct
pub mod FileReading
