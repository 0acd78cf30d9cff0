pub mod Blending
pub mod Rows
