pub mod Story
pub mod State
