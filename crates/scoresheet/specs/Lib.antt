pub mod Refusals
pub mod Sheet
