pub mod DeclaredParts
pub mod Derived
pub mod MirrorTables
pub mod MirrorCases
