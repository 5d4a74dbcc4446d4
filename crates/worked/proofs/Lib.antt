mod Tests
mod Acceptance
mod Lines
mod Runs
mod Words
mod Chains
mod Files
mod Worked
