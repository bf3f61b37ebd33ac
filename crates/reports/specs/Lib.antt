pub mod Failures
pub mod Memory
