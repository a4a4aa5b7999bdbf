pub mod Statuses
pub mod Texts
pub mod Protocols
pub mod Showing
pub mod Due
pub mod Playing
pub mod Judging
pub mod Answers
