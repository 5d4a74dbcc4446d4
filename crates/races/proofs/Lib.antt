pub mod Nearests
pub mod Classes
mod Gathered
pub mod Listing
