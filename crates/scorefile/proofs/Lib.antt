pub mod Requests
pub mod Lookups
