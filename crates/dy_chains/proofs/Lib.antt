pub mod GrownChains
pub mod Lists
pub mod LoggedFacts
pub mod Places
pub mod RulePremises
pub mod Watching
