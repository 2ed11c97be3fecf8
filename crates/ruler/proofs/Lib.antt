pub mod Charts
pub mod Relaxing
pub mod Ways
