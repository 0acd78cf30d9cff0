pub mod Planned
pub mod Running
