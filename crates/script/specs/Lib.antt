pub mod Texts
pub mod Lines
pub mod Answers
pub mod Faults
pub mod Scripts
pub mod Readings
