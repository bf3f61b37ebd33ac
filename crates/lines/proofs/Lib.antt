pub mod Seen
pub mod Numbers
pub mod Fronts
pub mod Unique
pub mod Former
