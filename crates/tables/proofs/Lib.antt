pub mod Places
pub mod Searched
pub mod Tests
pub mod Broken
pub mod Facts
