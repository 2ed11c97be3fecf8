pub mod Refusals
pub mod Listing
pub mod Pens
pub mod Reading
pub mod Files
