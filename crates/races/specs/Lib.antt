pub mod Chains
pub mod Classes
pub mod Listing
