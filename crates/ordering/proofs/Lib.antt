pub mod Members
pub mod Bridge
mod Gathered
pub mod Postings
mod Collected
mod Closed
