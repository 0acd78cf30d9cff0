pub mod Undoing
pub mod Kept
