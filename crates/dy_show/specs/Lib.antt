pub mod Spacing
pub mod Canonical
pub mod MirrorPages
pub mod Readings
pub mod Shapes
