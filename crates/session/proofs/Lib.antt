pub mod Completing
pub mod Concluding
pub mod Listing
pub mod Starting
