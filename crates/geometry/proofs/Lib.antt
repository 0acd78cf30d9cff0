pub mod PlaceLemmas
pub mod TraceLemmas
pub mod NeededLemmas
