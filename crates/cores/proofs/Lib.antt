pub mod Theory
pub mod Rounds
pub mod Searches
