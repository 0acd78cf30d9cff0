pub mod Passes
pub mod Mipmaps
pub mod Slots
