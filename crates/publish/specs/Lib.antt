pub mod Names
pub mod Count
pub mod Manifest
pub mod Files
