pub mod Refusals
pub mod Questions
pub mod Audit
pub mod Search
pub mod Law
