mod Splitting
pub mod Wording
