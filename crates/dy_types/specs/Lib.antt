pub mod Claims
pub mod FieldTypes
pub mod Facts
pub mod Tables
pub mod Meaning
pub mod MirrorMeets
pub mod MirrorClaims
