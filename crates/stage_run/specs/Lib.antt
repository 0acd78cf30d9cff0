pub mod Asked
pub mod StageRun
