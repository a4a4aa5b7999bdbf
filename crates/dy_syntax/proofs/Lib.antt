pub mod Rows
pub mod Noted
pub mod FirstFaults
pub mod Bodies
pub mod Sessions
pub mod Rounds
pub mod SameParts
