pub mod Cells
pub mod Story
pub mod Agreed
pub mod Index
pub mod Shared
pub mod Chosen
