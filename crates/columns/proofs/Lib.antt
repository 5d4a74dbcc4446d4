mod Bits
pub mod Has
mod Words
mod Meets
pub mod Counts
mod Lasts
mod Sweeps
