pub mod StepMeaning
pub mod Asking
pub mod MirrorBooks
pub mod BookMeaning
pub mod Protocols
pub mod Answers
pub mod MirrorFaults
