pub mod Chains
pub mod Courses
pub mod Lawfulness
pub mod Rows
pub mod Upholding
