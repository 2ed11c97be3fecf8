pub mod Contents
pub mod Layout
pub mod Loads
pub mod Nodes
pub mod Scan
