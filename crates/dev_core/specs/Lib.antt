pub mod Room
pub mod Shows
pub mod Subject
pub mod Jobs
pub mod Lines
pub mod DeskState
