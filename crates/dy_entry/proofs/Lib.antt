pub mod BestCandidates
pub mod Covered
pub mod Derivations
pub mod MadeNonces
pub mod Numbers
pub mod Traces
