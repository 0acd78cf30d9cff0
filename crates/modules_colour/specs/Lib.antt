pub mod Curving
pub mod Exposing
pub mod Mixing
pub mod Old
pub mod Stepping
