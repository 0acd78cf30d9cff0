pub mod Sides
pub mod Behind
pub mod Needed
