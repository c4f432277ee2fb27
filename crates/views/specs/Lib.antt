pub mod Views
pub mod Thousandths
pub mod Duties
