pub mod Sums
pub mod Wiring
pub mod Marks
pub mod Duality
