pub mod MeetLaws
pub mod ClaimLaws
pub mod Steps
pub mod TypeCases
pub mod FactLaws
pub mod Weaker
