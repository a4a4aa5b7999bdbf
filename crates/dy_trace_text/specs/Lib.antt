pub mod CountsText
pub mod EntryText
pub mod LabelText
pub mod ListText
pub mod MirrorPages
pub mod MirrorPieces
pub mod TraceText
