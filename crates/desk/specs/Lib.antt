pub mod Passes
pub mod Turns
pub mod Edits
pub mod Given
pub mod Stops
