pub mod Depths
pub mod RuleDepths
pub mod TreeDepths
