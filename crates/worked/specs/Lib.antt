pub mod Recordings
pub mod Table
