pub mod Records
pub mod Steps
pub mod Judging
pub mod Matches
