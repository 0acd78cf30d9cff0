pub mod Finished
pub mod Workers
