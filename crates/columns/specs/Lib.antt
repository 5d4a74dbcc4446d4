pub mod Positions
pub mod Sweep
