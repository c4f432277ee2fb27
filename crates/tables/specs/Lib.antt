pub mod Rows
pub mod Refusals
pub mod Stored
pub mod Right
pub mod Neighbours
pub mod Counting
pub mod Duties
