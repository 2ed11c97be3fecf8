mod Ends
pub mod Every
mod Growing
mod Routes
pub mod Sums
pub mod Within
mod Writes
