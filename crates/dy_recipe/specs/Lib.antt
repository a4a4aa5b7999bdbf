pub mod LentMeaning
pub mod Meaning
pub mod MirrorTrimming
pub mod Moves
pub mod Places
pub mod Trimming
pub mod Values
