pub mod Vectors
pub mod Trees
pub mod Walks
pub mod Layers
pub mod Room
pub mod Theorems
