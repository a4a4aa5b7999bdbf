pub mod Symbols
pub mod Tokens
pub mod MirrorPrefixes
pub mod Messages
