pub mod Sets
pub mod Bits
pub mod Counts
pub mod Words
pub mod Made
pub mod Firsts
pub mod Listing
pub mod Elements
