pub mod RunningLemmas
pub mod BoxLemmas
pub mod SharpLemmas
pub mod RadiusLemmas
pub mod DivisorLemmas
