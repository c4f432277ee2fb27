pub mod Cores
pub mod Refusals
pub mod Theorems
