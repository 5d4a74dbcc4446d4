pub mod Trace
pub mod Order
pub mod Race
pub mod Renaming
pub mod Theorems
