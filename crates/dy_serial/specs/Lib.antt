pub mod Running
pub mod MirrorRunning
