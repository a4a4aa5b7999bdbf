pub mod Chains
pub mod Lists
pub mod Logs
pub mod MirrorChains
pub mod MirrorFiring
pub mod MirrorLogs
pub mod MirrorWatchers
pub mod Rules
