pub mod RoomLemmas
pub mod StandLemmas
pub mod DeskLemmas
pub mod LevelLemmas
