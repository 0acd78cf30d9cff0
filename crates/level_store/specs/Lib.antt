pub mod Levels
pub mod Agreement
pub mod Passes
pub mod Planes
