pub mod Follows
pub mod Sound
pub mod Exact
pub mod Holding
pub mod Stored
pub mod Refusals
pub mod Calls
