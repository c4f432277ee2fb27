pub mod Weights
pub mod Refusals
pub mod Rows
pub mod Networks
pub mod WeightTable
pub mod Sums
pub mod Duties
