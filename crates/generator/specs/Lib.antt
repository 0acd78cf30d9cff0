pub mod Draws
pub mod Picture
pub mod Script
pub mod Subject
pub mod NextOf
pub mod Rounds
pub mod Tried
