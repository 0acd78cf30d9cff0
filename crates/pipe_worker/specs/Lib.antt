pub mod Job
pub mod Grew
pub mod Routes
pub mod Inputs
pub mod Runs
pub mod Attempts
pub mod Jobs
