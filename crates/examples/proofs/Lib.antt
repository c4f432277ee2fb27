pub mod Tables
pub mod Cores
pub mod Worked
