pub mod Stages
pub mod StageCache
