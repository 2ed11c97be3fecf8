pub mod Limits
pub mod Solver
pub mod Transport
