pub mod Pushes
pub mod Places
pub mod Fair
pub mod Determined
pub mod RenamedAcceptance
pub mod RenamedRuns
