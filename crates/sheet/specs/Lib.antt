pub mod Questions
pub mod Ledger
pub mod Answers
pub mod Law
