pub mod Lawful
pub mod Costs
pub mod Former
