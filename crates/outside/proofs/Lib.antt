pub mod Told
pub mod FaultLaws
pub mod ShelfLaws
pub mod FrontLemmas
pub mod KeptFiles
pub mod Writing
