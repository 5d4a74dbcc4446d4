pub mod Reading
pub mod Recordings
pub mod Writing
