pub mod Numbers
pub mod Ranges
pub mod Plants
pub mod Records
pub mod Levels
pub mod Costs
