pub mod Balancing
pub mod Demosaic
pub mod Levels
pub mod Mapped
pub mod Preparing
pub mod Rowwise
