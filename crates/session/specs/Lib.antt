pub mod Digest
pub mod Hex
pub mod Outcomes
pub mod Performed
pub mod Scores
pub mod Seed
pub mod Sessions
pub mod Tallies
