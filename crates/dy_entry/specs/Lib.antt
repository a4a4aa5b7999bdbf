pub mod Attacker
pub mod Entries
pub mod LookUps
pub mod Meaning
pub mod MirrorCounting
pub mod MirrorLookUps
pub mod Summaries
pub mod ValueLabels
