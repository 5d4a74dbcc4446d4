pub mod Failures
pub mod Faults
pub mod Files
pub mod Headers
pub mod Readers
pub mod Texts
