pub mod Costs
pub mod Ends
pub mod Listing
pub mod Planned
