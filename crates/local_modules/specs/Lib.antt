pub mod Blurring
pub mod Radius
pub mod Running
pub mod Sharpening
