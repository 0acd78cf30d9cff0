pub mod Stories
pub mod Changed
pub mod Turns
pub mod Joins
pub mod Dealing
pub mod Gathering
pub mod Turning
