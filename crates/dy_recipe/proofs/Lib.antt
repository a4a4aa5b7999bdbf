pub mod LastValues
pub mod Marking
pub mod NodeCounts
pub mod TrimmedMoves
pub mod TrimmedNeeds
pub mod TrimmedValues
pub mod ValuesByPlaces
