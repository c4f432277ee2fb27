pub mod Networks
pub mod Sizes
