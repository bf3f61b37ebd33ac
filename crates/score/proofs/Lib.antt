pub mod Walks
pub mod Gathers
pub mod Products
pub mod Arrays
