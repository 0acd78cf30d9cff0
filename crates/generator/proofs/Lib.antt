pub mod DrawLemmas
pub mod StepLemmas
pub mod IdleLemmas
pub mod TriedLemmas
pub mod RoundLemmas
pub mod RunLemmas
