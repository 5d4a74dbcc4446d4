mod Empty
pub mod Kept
