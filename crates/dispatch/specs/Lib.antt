pub mod Disciplines
pub mod Recorded
