pub mod Grammars
pub mod Prefixes
pub mod Reserved
pub mod LimitLaws
pub mod Readings
pub mod Depth
