mod Passed
pub mod Verdicts
mod ThreadSteps
mod LockSteps
mod TaskSteps
mod Agreement
