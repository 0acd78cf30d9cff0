pub mod Story
pub mod Known
pub mod Rule
pub mod Steps
pub mod Passes
pub mod Lending
pub mod Turned
pub mod Ending
