pub mod Words
pub mod Reads
