pub mod Sets
pub mod Words
pub mod Members
pub mod Lists
pub mod Refusals
