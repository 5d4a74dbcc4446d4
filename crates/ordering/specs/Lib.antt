pub mod Directly
pub mod Agrees
