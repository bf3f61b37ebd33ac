pub mod Sheet
pub mod Request
