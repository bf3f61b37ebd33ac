pub mod Form
pub mod Faults
pub mod Request
pub mod Texts
